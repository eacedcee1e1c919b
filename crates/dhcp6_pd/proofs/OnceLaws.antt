-- Options that may stand once, and IA_PDs.
use Rattle.std.proofs.Common.{◌≡◌, ℕ, ◌<◌, ◌≤◌, Bool, true, false, List, [], ◌∷◌, ◌++◌, length, Option, Some, None, Ok}
use Rattle.std.proofs.Common.{Err, refl, sym, ap, subst, ◌∙◌, arith, le-ltb, lt-ltb, append_assoc, length-append}
use Rattle.std.specs.Prelude.{nat_lt, if◌then◌else◌}
use Rattle.std.proofs.lemmas.Bool.{ltb-true, ltb-false}
use Rattle.text_fields.specs.Octets.{AreOctets}
use Rattle.client_id.specs.Duid.{IsDuid, duid_in}
use Rattle.client_id.specs.declared.error.ClientIdError.TheVariants.{TooShort, TooLong}
use Rattle.dhcp6_pd.specs.declared.numbers.TheConstants.{MAX_IAS}
use Rattle.dhcp6_pd.specs.declared.message.IaPd.{IaPd}
use Rattle.dhcp6_pd.specs.Grammar.{SpellIas}
use Rattle.dhcp6_pd.specs.Associations.{ia_in}
use Rattle.dhcp6_pd.specs.Faults.{duid_or, once, seen_once, with_ia}
use Rattle.dhcp6_pd.proofs.Binds.{bind_ok, allowed, ok_is}
use Rattle.dhcp6_pd.proofs.IaLaws.{ia_takes, ia_again}

-- ---- what options add to what is known

-- an identifier that stands at most once
abbrev pub Once : Option (List ℕ) → List (List ℕ) → Option (List ℕ) → Type 0
Once before [] after = after ≡ before
Once before (duid ∷ more) after = (before ≡ None) × IsDuid duid × (more ≡ []) × (after ≡ Some duid)

-- an option that stands at most once
abbrev pub Sees : Bool → List (List ℕ) → Bool → Type 0
Sees before [] after = after ≡ before
Sees before (octets ∷ more) after = (before ≡ false) × (more ≡ []) × (after ≡ true)

-- IA_PDs, with those before them at most 16, if those are as many
pub record AddsIas (before : List IaPd) (all : List (List ℕ)) (after : List IaPd) : Type 0 where
  pub new : List IaPd
  pub spelled : SpellIas all new
  pub joined : after ≡ before ++ new
  pub few : length before ≤ MAX_IAS → length after ≤ MAX_IAS

-- ---- one option of a kind

duid_takes : (octets : List ℕ) (slot : Option (List ℕ)) → AreOctets octets → duid_or (duid_in octets) ≡ Ok slot
    → IsDuid octets × (slot ≡ Some octets)
duid_takes octets slot h e = by (nat_lt (length octets) 3) (nat_lt 130 (length octets)) refl refl e
  where
    by : (t u : Bool) → nat_lt (length octets) 3 ≡ t → nat_lt 130 (length octets) ≡ u
        → duid_or (if t then Err TooShort else if u then Err TooLong else Ok octets) ≡ Ok slot
        → IsDuid octets × (slot ≡ Some octets)
    by true u st su e = absurd cc
    by false true st su e = absurd cc
    by false false st su e = (
      record {
        fits = h;
        least = ltb-false (length octets) 3 st;
        most =
            ltb-false 130 (length octets) su;
      },
      sym (ok_is _ _ e),
    )

pub duid_again : (octets : List ℕ) → IsDuid octets → duid_in octets ≡ Ok octets
duid_again octets h = rw (le-ltb (length octets) 3 h.least, le-ltb 130 (length octets) h.most) refl

-- behind an identifier no other stands
once_last : (duid : List ℕ) (all : List (List ℕ)) (after : Option (List ℕ)) → Once (Some duid) all after
    → (all ≡ []) × (after ≡ Some duid)
once_last duid [] after h = (refl, h)
once_last duid (other ∷ all) after h = absurd (let e = h.0 in cc)

pub once_takes : (before middle after : Option (List ℕ)) (octets : List ℕ) (all : List (List ℕ)) → AreOctets octets
    → once before octets ≡ Ok middle → Once middle all after → Once before (octets ∷ all) after
unfolding once
once_takes None middle after octets all fits e h =
    let d = duid_takes octets middle fits e in
    let l = once_last octets all after (subst (λ (o : Option (List ℕ)). Once o all after) d.1 h) in
    (refl, d.0, l.0, l.1)
once_takes (Some duid) middle after octets all fits e h = absurd cc

pub once_again : (before after : Option (List ℕ)) (octets : List ℕ) (all : List (List ℕ))
    → Once before (octets ∷ all) after → (once before octets ≡ Ok (Some octets)) × Once (Some octets) all after
unfolding once
once_again before after octets all h = (
  ap (λ (o : Option (List ℕ)). once o octets) h.0 ∙ ap duid_or (duid_again octets h.1),
  subst (λ (xs : List (List ℕ)). Once (Some octets) xs after) (sym h.2) h.3,
)

pub sees_last : (all : List (List ℕ)) (after : Bool) → Sees true all after → (all ≡ []) × (after ≡ true)
sees_last [] after h = (refl, h)
sees_last (octets ∷ all) after h = absurd (let e = h.0 in cc)

pub sees_takes : (before middle after : Bool) (octets : List ℕ) (all : List (List ℕ)) → seen_once before ≡ Ok middle
    → Sees middle all after → Sees before (octets ∷ all) after
unfolding seen_once
sees_takes false middle after octets all e h =
    let l = sees_last all after (subst (λ (b : Bool). Sees b all after) (sym (ok_is _ _ e)) h) in
    (refl, l.0, l.1)
sees_takes true middle after octets all e h = absurd cc

pub sees_again : (before after : Bool) (octets : List ℕ) (all : List (List ℕ)) → Sees before (octets ∷ all) after
    → (seen_once before ≡ Ok true) × Sees true all after
unfolding seen_once
sees_again before after octets all h = (
  ap seen_once h.0,
  subst (λ (xs : List (List ℕ)). Sees true xs after) (sym h.1) h.2,
)

longer : (before middle : List IaPd) (ia : IaPd) → length before < MAX_IAS → middle ≡ before ++ ia ∷ []
    → length middle ≤ MAX_IAS
longer before middle ia room is = omega (arith, ap length is, length-append before (ia ∷ []))

pub ias_takes : (before middle after : List IaPd) (octets : List ℕ) (all : List (List ℕ)) → AreOctets octets
    → with_ia before octets ≡ Ok middle → AddsIas middle all after → AddsIas before (octets ∷ all) after
unfolding with_ia
ias_takes before middle after octets all fits e h =
    let a = allowed _ _ _ middle e in
    let b = bind_ok (ia_in octets) _ middle a.1 in
    let ia = b.0 in
    let is : middle ≡ before ++ ia ∷ [] = sym (ok_is _ _ b.2) in
    let room : length before < MAX_IAS = ltb-true (length before) MAX_IAS a.0 in
    record {
      new = ia ∷ h.new;
      spelled = (ia_takes octets ia fits b.1, h.spelled);
      joined = h.joined ∙ (ap (λ (xs : List IaPd). xs ++ h.new) is ∙ append_assoc before (ia ∷ []) h.new);
      few = λ _. h.few (longer before middle ia room is);
    }

-- the next IA_PD of some that are added
pub record NextIa (before : List IaPd) (octets : List ℕ) (all : List (List ℕ)) (after : List IaPd) : Type 0 where
  pub middle : List IaPd
  pub found : with_ia before octets ≡ Ok middle
  pub later : AddsIas middle all after

next_ia : (before after new : List IaPd) (octets : List ℕ) (all : List (List ℕ)) → SpellIas (octets ∷ all) new
    → after ≡ before ++ new → length after ≤ MAX_IAS → NextIa before octets all after
unfolding with_ia
next_ia before after [] octets all h joined few = absurd h
next_ia before after (ia ∷ new) octets all h joined few =
    let room : length before < MAX_IAS = omega (arith, ap length joined, length-append before (ia ∷ new)) in
    record {
      middle = before ++ ia ∷ [];
      found = rw (lt-ltb (length before) MAX_IAS room, ia_again octets ia h.0) refl;
      later = record {
        new = new;
        spelled = h.1;
        joined = joined ∙ sym (append_assoc before (ia ∷ []) new);
        few =
            λ _. few;
      };
    }

pub ias_again : (before after : List IaPd) (octets : List ℕ) (all : List (List ℕ)) → length after ≤ MAX_IAS
    → AddsIas before (octets ∷ all) after → NextIa before octets all after
ias_again before after octets all few h = next_ia before after h.new octets all h.spelled h.joined few
