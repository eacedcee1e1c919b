-- Parsing step by step, taken apart.
use Rattle.std.proofs.Common.{◌≡◌, Bool, true, false, Result, Ok, Err, refl, sym, subst}
use Rattle.std.specs.Prelude.{if◌then◌else◌}
use Rattle.text_fields.specs.Parsing.{◌>>!◌}
use Rattle.dhcp6_pd.specs.declared.error.PdFault.{PdFault}

pub bind_ok : {A B : Type 0} (r : Result A PdFault) (f : A → Result B PdFault) (y : B) → (r >>! f) ≡ Ok y
    → (x : A) × (r ≡ Ok x) × (f x ≡ Ok y)
bind_ok (Ok x) f y e = (x, refl, e)
bind_ok (Err fault) f y e = absurd cc

-- a test that lets pass where it is false
pub passed : {A : Type 0} (b : Bool) (fault : PdFault) (r : Result A PdFault) (y : A)
    → (if b then Err fault else r) ≡ Ok y → (b ≡ false) × (r ≡ Ok y)
passed true fault r y e = absurd cc
passed false fault r y e = (refl, e)

-- and one that lets pass where it is true
pub allowed : {A : Type 0} (b : Bool) (fault : PdFault) (r : Result A PdFault) (y : A)
    → (if b then r else Err fault) ≡ Ok y → (b ≡ true) × (r ≡ Ok y)
allowed true fault r y e = (refl, e)
allowed false fault r y e = absurd cc

pub ok_is : {A : Type 0} (x y : A) → (let r : Result A PdFault = Ok x in r) ≡ Ok y → x ≡ y
ok_is x y e = cc

-- what a step found, put into what is known
pub put : {S F : Type 0} (A : S → Type 0) (found : Result F PdFault) (set : F → S) (more : S)
    → (found >>! λ x. Ok (set x)) ≡ Ok more → A more
    → (x : F) × (found ≡ Ok x) × A (set x)
put A found set more e h = let b = bind_ok found _ more e in (b.0, b.1, subst A (sym (ok_is _ _ b.2)) h)
