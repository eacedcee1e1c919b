-- What is so at each moment.
use Rattle.std.proofs.Common.{◌≡◌, ◌⊎◌, inl, inr, ℕ, ◌+◌, ◌-◌, ◌≤◌, List, [], ◌∷◌, ◌++◌, length, map, take, refl, sym}
use Rattle.std.proofs.Common.{◌∙◌, ap, subst, arith}
use Rattle.std.proofs.lemmas.List.{map_push, length-map, take_all}
use Rattle.binding_rules.specs.declared.role.Role.{Role}
use Rattle.disk_model.specs.Disk.{Call, AllLeft, LeavesOnly, at_first, then_also}
use Rattle.disk_model.specs.Lines.{recovered, AreFirst}
use Rattle.disk_model.specs.Later.{LeftAreFirst}
use Rattle.disk_model.specs.Names.{NameCall, names_after, AreSettled, AllNamesLeft, NamesOnly}
use Rattle.disk_model.specs.Names.{names_at_first, names_then_also}
use Rattle.disk_model.specs.Volumes.{HasSettled, AreLeftOf}
use Rattle.book_rules.specs.NextHead.{AreLegal}
use Rattle.open_volume.specs.declared.volume.VolumeSoFar.{VolumeSoFar}
use Rattle.open_volume.specs.Spelling.{text_lines}
use Rattle.volume_store.specs.Published.{told, LeftAreLegal}
use Rattle.volume_store.specs.Folder.{lines_of, AreVolumesSoFar, AreContents}
use Rattle.volume_store.specs.Laws.{AreServersContents}
use Rattle.server_core.specs.Servers.{LeavesLines, AllLeaveLines, AtEachMoment, at_once, and_then, LeavesServers}

-- all names are on the disk: as many files are left as there are
pub names_stay : (n : ℕ) (names : List NameCall) → AreSettled names → (names_after names).files ≡ n + 1
    → AllNamesLeft (λ count. (count ≡ n) ⊎ (count ≡ n + 1)) names
names_stay n names settled files count left =
    inr (omega (arith, left.0, left.1, settled.sure, settled.most, files))

-- a file that has settled leaves its lines
pub leaves_lines : LeftAreFirst → (file : List Call) (lines : List (List ℕ)) → HasSettled file lines
    → LeavesLines file lines
leaves_lines law file lines has content left =
    let found = law file has.is_open content left in
    let most : found.count ≤ length lines = omega (arith, found.within, ap length has.lines_are) in
    let least : length lines ≤ found.count = omega (arith, found.enough, ap length has.synced_are) in
    found.same ∙ ap (λ (ls : List (List ℕ)). take found.count ls) has.lines_are
    ∙ take_all found.count lines least

-- what is left of files that leave their lines, and of no more
earlier_alone : (files : List (List Call)) (volumes : List (List (List ℕ))) (file : List Call)
    (contents : List (List ℕ)) → AllLeaveLines files volumes → AreLeftOf (files ++ file ∷ []) contents
    → length contents ≡ length volumes → map recovered contents ≡ volumes
earlier_alone [] [] file [] leave left size = refl
earlier_alone [] [] file (c ∷ contents) leave left size = absurd (omega (arith, size))
earlier_alone [] (v ∷ volumes) file contents leave left size = absurd leave
earlier_alone (f ∷ files) [] file contents leave left size = absurd leave
earlier_alone (f ∷ files) (v ∷ volumes) file [] leave left size = absurd (omega (arith, size))
earlier_alone (f ∷ files) (v ∷ volumes) file (c ∷ contents) leave left size =
    λ i. leave.0 c left.0 i ∷ earlier_alone files volumes file contents leave.1 left.1 (omega (arith, size)) i

-- and of one more, of which there are the first so many lines
record HasMore (volumes : List (List (List ℕ))) (lines : List (List ℕ)) (least : ℕ) (contents : List (List ℕ))
    : Type 0 where
  count : ℕ
  enough : least ≤ count
  are : map recovered contents ≡ volumes ++ take count lines ∷ []

one_more : (files : List (List Call)) (volumes : List (List (List ℕ))) (file : List Call) (lines : List (List ℕ))
    (least : ℕ) (contents : List (List ℕ)) → AllLeaveLines files volumes → AreLeftOf (files ++ file ∷ []) contents
    → AllLeft (AreFirst lines least) file → length contents ≡ length volumes + 1
    → HasMore volumes lines least contents
one_more [] [] file lines least [] leave left first size = absurd (omega (arith, size))
one_more [] [] file lines least (c ∷ []) leave left first size =
    let found = first c left.0 in
    record { count = found.count; enough = found.enough; are = ap (λ (ls : List (List ℕ)). ls ∷ []) found.same }
one_more [] [] file lines least (c ∷ d ∷ contents) leave left first size = absurd (omega (arith, size))
one_more [] (v ∷ volumes) file lines least contents leave left first size = absurd leave
one_more (f ∷ files) [] file lines least contents leave left first size = absurd leave
one_more (f ∷ files) (v ∷ volumes) file lines least [] leave left first size = absurd (omega (arith, size))
one_more (f ∷ files) (v ∷ volumes) file lines least (c ∷ contents) leave left first size =
    let more = one_more files volumes file lines least contents leave.1 left.1 first (omega (arith, size)) in
    record {
      count = more.count;
      enough = more.enough;
      are = λ i. leave.0 c left.0 i ∷ more.are i;
    }

module _ (law : LeftAreLegal) (role : Role) (earlier : List VolumeSoFar) (last : VolumeSoFar) (least : ℕ)
    (files : List (List Call)) (vs : AreVolumesSoFar role earlier last)
    (leave : AllLeaveLines files (map text_lines earlier)) where
  legal : (count : ℕ) → AreLegal role (map lines_of earlier ++ told (take count (lines_of last)))
  legal count = law role (map lines_of earlier) (lines_of last) count
      (subst (AreLegal role) (map_push lines_of earlier last) vs.legal)

  contents_are : (contents : List (List ℕ)) (count : ℕ) → AreContents earlier last count contents
      → (length contents ≡ length earlier + 1 → least ≤ count) → AreServersContents role earlier last least contents
  contents_are contents count are enough = record {
    count = count;
    are = are;
    enough = enough;
    goes_on = λ result g. g earlier last count vs are;
    legal = legal (count - 1);
  }

  many : length (map text_lines earlier) ≡ length earlier
  many = length-map earlier text_lines

  -- at a moment
  pub at_one : (names : List NameCall)
      → AllNamesLeft (λ count. (count ≡ length earlier) ⊎ (count ≡ length earlier + 1)) names
      → (file : List Call) → AllLeft (AreFirst (text_lines last) least) file
      → LeavesServers role earlier last least names files file
  at_one names all file first contents left = elim (all (length contents) left.names_left) [
    | inl size ↦ contents_are contents 0
        (inl (refl, earlier_alone files (map text_lines earlier) file contents leave left.each (size ∙ sym many)))
        (λ more. absurd (omega (arith, size, more)))
    | inr size ↦ (
        let found = one_more files (map text_lines earlier) file (text_lines last) least contents leave left.each first
        (omega (arith, size, many)) in
        contents_are contents found.count (inr found.are) (λ more. found.enough)
        )
  ]

  -- at each moment of a file
  pub at_each : (names : List NameCall)
      → AllNamesLeft (λ count. (count ≡ length earlier) ⊎ (count ≡ length earlier + 1)) names
      → (old new : List Call) → LeavesOnly (AreFirst (text_lines last) least) old new
      → AtEachMoment (λ file. LeavesServers role earlier last least names files file) old new
  at_each names all old _ (at_first left) = at_once (at_one names all old left)
  at_each names all old _ (then_also call calls before left) =
      and_then call calls (at_each names all old calls before) (at_one names all (call ∷ calls) left)

  -- and of the names
  pub at_each_name : (old new : List Call) → LeavesOnly (AreFirst (text_lines last) least) old new
      → (from now : List NameCall)
      → NamesOnly (λ count. (count ≡ length earlier) ⊎ (count ≡ length earlier + 1)) from now
      → AtEachMoment (λ made. AtEachMoment (λ file. LeavesServers role earlier last least made files file) old new)
      from now
  at_each_name old new left from _ (names_at_first all) = at_once (at_each from all old new left)
  at_each_name old new left from _ (names_then_also call calls before all) =
      and_then call calls (at_each_name old new left from calls before) (at_each (call ∷ calls) all old new left)
