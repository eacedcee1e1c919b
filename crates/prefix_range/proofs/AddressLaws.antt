-- The address that is read of a text is spelled so, and an address that is spelled is read again.
use Rattle.std.proofs.Common.{◌≡◌, ◌≢◌, ℕ, ◌+◌, ◌-◌, ◌<◌, ◌≤◌, cond, eqb, leb, List, [], ◌∷◌, ◌++◌, length, replicate}
use Rattle.std.proofs.Common.{Option, Some, None, refl, sym, ap, ◌∙◌, length-append, arith, inl, inr}
use Rattle.std.proofs.lemmas.Bool.{eqb-true, eq-eqb, leb-true, le-leb}
use Rattle.std.proofs.lemmas.List.{length-replicate}
use Rattle.text_fields.specs.Parsing.{◌>>=◌}
use Rattle.text_fields.specs.Cuts.{joined, Lacks}
use Rattle.text_fields.proofs.Steps.{bind_some, some_is, chosen}
use Rattle.text_fields.proofs.CutLaws.{Lacks-append, Lacks-joined}
use Rattle.prefix_range.specs.Spelling.{AreGroups, value_of, IsWhole, IsShortened, SpellsAddress}
use Rattle.prefix_range.specs.Parsing.{words_of, groups_on, padded, cut, with_gap, groups_cut, whole, text_address}
use Rattle.prefix_range.proofs.GroupLaws.{groups_lack, words_again, words_take, on_takes, on_again, padded_again}
use Rattle.prefix_range.proofs.CutLaws.{cut_takes, cut_nothing, cut_again}

-- ---- what is read

whole_takes : (groups : List ℕ) (a : ℕ) → whole groups ≡ Some a → (length groups ≡ 8) × (a ≡ value_of groups)
unfolding whole
whole_takes groups a e =
    let c = chosen (eqb (length groups) 8) (Some (value_of groups)) a e in
    (eqb-true (length groups) 8 c.0, sym (some_is _ _ c.1))

-- the zeros of a gap, and the groups behind it
pub record IsGap (front : List ℕ) (words : List (List ℕ)) (groups : List ℕ) : Type 0 where
  pub back : List ℕ
  pub zeros : ℕ
  pub are : AreGroups words back
  pub some : 0 < zeros
  pub eight : length front + zeros + length back ≡ 8
  pub all : groups ≡ front ++ replicate zeros 0 ++ back

gap_takes : (front : List ℕ) (words : List (List ℕ)) (groups : List ℕ) → with_gap front words ≡ Some groups
    → IsGap front words groups
unfolding with_gap
gap_takes front words groups e =
    let back = bind_some (groups_on [] words)
    (λ back. cond (leb (length front + length back) 7) (padded front (8 - (length front + length back))) None
    >>= λ gap. groups_on gap words) groups e in
    let n = length front + length back.0 in
    let gap = bind_some (cond (leb n 7) (padded front (8 - n)) None) (λ gap. groups_on gap words) groups back.2 in
    let c = chosen (leb n 7) (padded front (8 - n)) gap.0 gap.1 in
    let few : n ≤ 7 = leb-true n 7 c.0 in
    let read = on_takes [] words back.0 back.1 in
    let same : back.0 ≡ read.0 = read.1 in
    let long : length back.0 ≡ length read.0 = ap length same in
    let pad : padded front (8 - n) ≡ Some (front ++ replicate (8 - n) 0) = padded_again front (8 - n) (omega arith) in
    let gap_is : gap.0 ≡ front ++ replicate (8 - n) 0 = some_is _ _ (sym c.1 ∙ pad) in
    let gap_long : length (front ++ replicate (8 - n) 0) ≡ length front + (8 - n) =
    omega (arith, length-append front (replicate (8 - n) 0), length-replicate {A = ℕ} (8 - n) 0) in
    let again : groups_on (front ++ replicate (8 - n) 0) words ≡ Some ((front ++ replicate (8 - n) 0) ++ read.0) =
    on_again (front ++ replicate (8 - n) 0) words read.0 read.2 (omega arith) in
    let all : groups ≡ (front ++ replicate (8 - n) 0) ++ read.0 =
    some_is _ _ (sym gap.2 ∙ (ap (λ (x : List ℕ). groups_on x words) gap_is ∙ again)) in
    record { back = read.0; zeros = 8 - n; are = read.2; some = omega arith; eight = omega arith; all = all }

cut_takes_address : (text : List ℕ) (found : Option (List ℕ × List ℕ)) (groups : List ℕ) (a : ℕ) → cut text ≡ found
    → groups_cut text found ≡ Some groups → length groups ≡ 8 → a ≡ value_of groups → SpellsAddress text a
cut_takes_address text None groups a e read eight value =
    let r = on_takes [] (words_of text) groups read in
    let same : groups ≡ r.0 = r.1 in
    let long : length r.0 ≡ 8 = ap length (sym same) ∙ eight in
    inl (record {
      words = words_of text;
      groups = r.0;
      text_is = words_take text;
      are = r.2;
      eight = long;
      value =
          value ∙ ap value_of same;
    })
cut_takes_address text (Some x) groups a e read eight value =
    let front = bind_some (groups_on [] (words_of x.0)) (λ front. with_gap front (words_of x.1)) groups read in
    let r = on_takes [] (words_of x.0) front.0 front.1 in
    let same : front.0 ≡ r.0 = r.1 in
    let gap = gap_takes front.0 (words_of x.1) groups front.2 in
    let text_is : text ≡ joined 58 (words_of x.0) ++ 58 ∷ 58 ∷ joined 58 (words_of x.1) =
    cut_takes text x.0 x.1 e ∙ (ap (λ (w : List ℕ). w ++ 58 ∷ 58 ∷ x.1) (words_take x.0)
    ∙ ap (λ (w : List ℕ). joined 58 (words_of x.0) ++ 58 ∷ 58 ∷ w) (words_take x.1)) in
    inr (record {
      before = words_of x.0;
      behind = words_of x.1;
      front = r.0;
      back = gap.back;
      zeros = gap.zeros;
      text_is = text_is;
      are_before = r.2;
      are_behind = gap.are;
      some = gap.some;
      eight = omega (arith, gap.eight, ap length same);
      value = value
          ∙ (ap value_of gap.all ∙ ap (λ (w : List ℕ). value_of (w ++ replicate gap.zeros 0 ++ gap.back)) same);
    })

pub address_takes : (text : List ℕ) (a : ℕ) → text_address text ≡ Some a → SpellsAddress text a
unfolding text_address
address_takes text a e =
    let groups = bind_some (groups_cut text (cut text)) whole a e in
    let w = whole_takes groups.0 a groups.2 in
    cut_takes_address text (cut text) groups.0 a refl groups.1 w.0 w.1

-- ---- what is spelled

whole_again : (groups : List ℕ) → length groups ≡ 8 → whole groups ≡ Some (value_of groups)
unfolding whole
whole_again groups eight = rw (eq-eqb (length groups) 8 eight) refl

read_whole_address : (text : List ℕ) (a : ℕ) → IsWhole text a → text_address text ≡ Some a
unfolding text_address
read_whole_address text a h =
    let nothing : cut text ≡ None = ap cut h.text_is ∙ cut_nothing h.words h.groups h.are in
    let words : words_of text ≡ h.words = ap words_of h.text_is ∙ words_again h.words h.groups h.are in
    let read : groups_on [] (words_of text) ≡ Some h.groups = ap (groups_on []) words
    ∙ on_again [] h.words h.groups h.are (omega (arith, h.eight)) in
    rw (nothing, read) (whole_again h.groups h.eight ∙ ap (λ (n : ℕ). Some n) (sym h.value))

gap_again : (front : List ℕ) (words : List (List ℕ)) (back : List ℕ) (zeros : ℕ) → AreGroups words back → 0 < zeros
    → length front + zeros + length back ≡ 8 → with_gap front words ≡ Some (front ++ replicate zeros 0 ++ back)
unfolding with_gap
gap_again front words back zeros are some eight =
    let read : groups_on [] words ≡ Some back = on_again [] words back are (omega arith) in
    let few = le-leb (length front + length back) 7 (omega arith) in
    let left : 8 - (length front + length back) ≡ zeros = omega arith in
    let pad : padded front zeros ≡ Some (front ++ replicate zeros 0) = padded_again front zeros (omega arith) in
    let long : length (front ++ replicate zeros 0) ≡ length front + zeros =
    omega (arith, length-append front (replicate zeros 0), length-replicate {A = ℕ} zeros 0) in
    rw (read, few, left, pad) (on_again (front ++ replicate zeros 0) words back are (omega arith))

read_shortened : (text : List ℕ) (a : ℕ) → IsShortened text a → text_address text ≡ Some a
unfolding text_address
read_shortened text a h =
    let found : cut text ≡ Some (joined 58 h.before, joined 58 h.behind) =
    ap cut h.text_is ∙ cut_again h.before h.front (joined 58 h.behind) h.are_before in
    let before = words_again h.before h.front h.are_before in
    let behind = words_again h.behind h.back h.are_behind in
    let front : groups_on [] (words_of (joined 58 h.before)) ≡ Some h.front =
    ap (groups_on []) before ∙ on_again [] h.before h.front h.are_before (omega (arith, h.eight)) in
    let gap : with_gap h.front (words_of (joined 58 h.behind)) ≡ Some (h.front ++ replicate h.zeros 0 ++ h.back) =
    ap (with_gap h.front) behind ∙ gap_again h.front h.behind h.back h.zeros h.are_behind h.some h.eight in
    let groups = h.front ++ replicate h.zeros 0 ++ h.back in
    let long : length groups ≡ 8 =
    omega (
      arith,
      length-append (h.front ++ replicate h.zeros 0) h.back,
      length-append h.front (replicate h.zeros 0),
      length-replicate {A = ℕ} h.zeros 0,
      h.eight,
    ) in
    rw (found, front, gap) (whole_again groups long ∙ ap (λ (n : ℕ). Some n) (sym h.value))

pub address_again : (text : List ℕ) (a : ℕ) → SpellsAddress text a → text_address text ≡ Some a
address_again text a (inl h) = read_whole_address text a h
address_again text a (inr h) = read_shortened text a h

colon : ◌≢◌ {A = ℕ} 58 47
colon e = omega arith

-- an address has no slash
pub address_lacks_slash : (text : List ℕ) (a : ℕ) → SpellsAddress text a → Lacks 47 text
address_lacks_slash text a (inl h) = rw h.text_is
    (Lacks-joined 47 58 h.words (groups_lack 47 h.words h.groups refl h.are) colon)
address_lacks_slash text a (inr h) =
    let before = Lacks-joined 47 58 h.before (groups_lack 47 h.before h.front refl h.are_before) colon in
    let behind = Lacks-joined 47 58 h.behind (groups_lack 47 h.behind h.back refl h.are_behind) colon in
    rw h.text_is (Lacks-append 47 (joined 58 h.before) (58 ∷ 58 ∷ joined 58 h.behind) before (colon, (colon, behind)))
