-- What is drawn of a folder is what a loss of power may leave.
use Rattle.std.proofs.Common.{◌≡◌, ℕ, ◌<◌, ◌≤◌, List, [], ◌∷◌, ◌++◌, length, map, slice_get, get_or, Some, refl, false}
use Rattle.std.proofs.Common.{sym, subst, arith, Result, Ok, Err, Vec, Global}
use Rattle.std.specs.Prelude.{OnOk}
use Rattle.std.specs.Result.{is_err}
use Rattle.std.proofs.lemmas.Bool.{false≢true}
use Rattle.std.proofs.lemmas.List.{length-append}
use Rattle.std.proofs.lemmas.Option.{slice_get_read, slice_get_within, get_or_from_slice_get}
use Rattle.disk_model.specs.Disk.{Call, file_after, IsLeft}
use Rattle.disk_model.specs.declared.device.DeviceError.{DeviceError}
use Rattle.disk_model.specs.Names.{NameCall, settled, names_after, after_name_call, NotesName, NotesNameSync}
use Rattle.disk_model.specs.Volumes.{AreLeftOf}
use Rattle.test_support.specs.MirrorNames.{MirrorsNames}
use Rattle.test_support.specs.declared.names.NameState.{NameState}

-- ---- the names

-- a call that is noted, and that it failed if it did, leaves the names that the call leaves
pub mirrors_noted : {T : Type 0} (call : NameCall) (result : Result T DeviceError) (s : NameState)
    (old new : List NameCall)
    → NotesName result call old new → MirrorsNames s (after_name_call call (names_after old))
    → MirrorsNames s (names_after new)
mirrors_noted call (Ok done) s old new is m = subst (λ calls. MirrorsNames s (names_after calls)) (sym is) m
mirrors_noted call (Err e) s old new is m =
    subst (λ calls. MirrorsNames s (names_after calls)) (sym is)
    (record { files = m.files; sure = m.sure; most = m.most })

pub mirrors_settled : {T : Type 0} (result : Result T DeviceError) (done : T) (s : NameState) (old new : List NameCall)
    → result ≡ Ok done
    → NotesNameSync result old new → MirrorsNames s (after_name_call settled (names_after old))
    → MirrorsNames s (names_after new)
mirrors_settled result done s old new is noted m =
    subst (λ calls. MirrorsNames s (names_after calls)) (sym (subst (λ r. NotesNameSync r old new) is noted)) m

-- what holds where a call went well, of one that did
pub on_well : {T E P : Type 0} (result : Result T E) → OnOk result P → false ≡ is_err result → P
on_well (Ok done) holds well = holds
on_well (Err e) holds well = absurd (false≢true well)

-- ---- the contents

-- so many contents are drawn so far
pub record AreSoFar (files : List (List Call)) (count : ℕ) (contents : List (Vec ℕ Global)) : Type 0 where
  pub each : AreLeftOf files (map (λ c. c.items) contents)
  pub few : length contents ≤ count

none_so_far : (files : List (List Call)) → AreLeftOf files []
none_so_far [] = tt
none_so_far (f ∷ fs) = tt

one_more : (files : List (List Call)) (contents : List (Vec ℕ Global)) (file : List Call) (c : Vec ℕ Global)
    → AreLeftOf files (map (λ x. x.items) contents)
    → slice_get files (length contents) ≡ Some file → IsLeft (file_after file) c.items
    → AreLeftOf files (map (λ x. x.items) (contents ++ c ∷ []))
one_more [] [] file c each is left = absurd (omega (arith, slice_get_within [] 0 file is))
one_more (f ∷ fs) [] file c each is left = (
  subst (λ calls. IsLeft (file_after calls) c.items) (sym (get_or_from_slice_get (f ∷ fs) 0 file f is)) left,
  none_so_far fs,
)
one_more [] (d ∷ ds) file c each is left = each
one_more (f ∷ fs) (d ∷ ds) file c each is left = (each.0, one_more fs ds file c each.1 is left)

pub more_so_far : (files : List (List Call)) (count : ℕ) (contents : List (Vec ℕ Global)) (file : List Call)
    (c : Vec ℕ Global) (place : ℕ) → AreSoFar files count contents
    → count ≤ length files → place ≡ length contents → file ≡ get_or files place file
    → IsLeft (file_after file) c.items → place < count → AreSoFar files count (contents ++ c ∷ [])
more_so_far files count contents file c place so_far within is found left low =
    let at : slice_get files (length contents) ≡ Some file =
    subst (λ n. slice_get files n ≡ Some file) is
    (slice_get_read files (length files) place file refl (omega (arith, low, within)) found) in
    record {
      each = one_more files contents file c so_far.each at left;
      few = omega (arith, low, is, length-append contents (c ∷ []));
    }
