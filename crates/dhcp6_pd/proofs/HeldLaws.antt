-- The relay message among the options of a relay.
use Rattle.std.proofs.Common.{◌≡◌, ℕ, Bool, true, false, List, [], ◌∷◌, Option, Some, None, Result, Ok, refl, sym, ap}
use Rattle.std.proofs.Common.{subst, ◌∙◌}
use Rattle.std.specs.Prelude.{◌==◌, if◌then◌else◌}
use Rattle.std.proofs.lemmas.Bool.{eqb-true}
use Rattle.dhcp6_pd.specs.declared.numbers.TheConstants.{RELAY_MESSAGE}
use Rattle.dhcp6_pd.specs.declared.error.PdFault.{PdFault}
use Rattle.dhcp6_pd.specs.declared.relay_options.RelayOptions.{RelayOptions}
use Rattle.dhcp6_pd.specs.Options.{DhcpOption, data_of}
use Rattle.dhcp6_pd.specs.Rows.{Row, Done, Broken, Next, code_of, folded}
use Rattle.dhcp6_pd.specs.Faults.{seen_once, relay_code, relay_option, to_message}
use Rattle.dhcp6_pd.proofs.Binds.{bind_ok, ok_is}
use Rattle.dhcp6_pd.proofs.Wholes.{whole, folded_whole}
use Rattle.dhcp6_pd.proofs.OnceLaws.{Sees, sees_last}
use Rattle.dhcp6_pd.proofs.RelayOptionLaws.{AddsToRelay, NextOfRelay, relay_step, relay_next, relay_options_takes}
use Rattle.dhcp6_pd.proofs.RelayOptionLaws.{relay_options_again}

-- the options of a relay that holds a message
pub record Holds (l : RelayOptions) (row : Row) (t : RelayOptions) (held : List ℕ) : Type 0 where
  pub options : List DhcpOption
  pub is : row ≡ whole options
  pub adds : AddsToRelay l options t
  pub only : data_of RELAY_MESSAGE options ≡ held ∷ []

-- the relay message marks that it stood
sees_it : (l more : RelayOptions) (octets : List ℕ) (code : ℕ) → code ≡ RELAY_MESSAGE
    → relay_code (code_of code) l octets ≡ Ok more → more.relayed ≡ true
unfolding code_of seen_once
sees_it l more octets code is e =
    let f : relay_code (code_of RELAY_MESSAGE) l octets ≡ Ok more =
    subst (λ (k : ℕ). relay_code (code_of k) l octets ≡ Ok more) is e in
    by l.relayed (bind_ok (seen_once l.relayed) _ more f)
  where
    by : (b : Bool) → (x : Bool) × (seen_once b ≡ Ok x)
        × (Ok (record l { relayed = x }) ≡ (let r : Result RelayOptions PdFault = Ok more in r)) → more.relayed ≡ true
    by true h = absurd (let e = h.1 in cc)
    by false h = ap (λ (m : RelayOptions). m.relayed) (sym (ok_is _ _ h.2)) ∙ sym (ok_is _ _ h.1)

-- behind it no other stands
none_behind : (l t : RelayOptions) (options : List DhcpOption) → l.relayed ≡ true → AddsToRelay l options t
    → data_of RELAY_MESSAGE options ≡ []
none_behind l t options is h =
    (sees_last (data_of RELAY_MESSAGE options) t.relayed
    (subst (λ (b : Bool). Sees b (data_of RELAY_MESSAGE options) t.relayed) is h.relayed)).0

pub no_some : (x : List ℕ × Row) → (let o : Option (List ℕ × Row) = None in o) ≡ Some x → ⊥
no_some x e = cc

pub some_both : (x y : List ℕ × Row) → Some x ≡ Some y → (x.0 ≡ y.0) × (x.1 ≡ y.1)
some_both x y e = let f : x ≡ y = cc in (ap (λ (p : List ℕ × Row). p.0) f, ap (λ (p : List ℕ × Row). p.1) f)

-- what the options up to the relay message and those behind it say together
pub held_takes : (row left : Row) (l up t : RelayOptions) (held : List ℕ)
    → to_message l row ≡ Ok (up, Some (held, left)) → folded relay_option up left ≡ Ok t → Holds l row t held
unfolding to_message relay_option
held_takes Done left l up t held e rest =
    absurd (no_some (held, left) (ap (λ (x : RelayOptions × Option (List ℕ × Row)). x.1)
    (ok_is {A = RelayOptions × Option (List ℕ × Row)} (l, None) (up, Some (held, left)) e)))
held_takes (Broken fault) left l up t held e rest = absurd cc
held_takes (Next o row) left l up t held e rest =
    let b = bind_ok (relay_code (code_of o.code) l o.octets) _ (up, Some (held, left)) e in
    by (o.code == RELAY_MESSAGE) refl (λ m f. held_takes row left m up t held f rest) b.0 b.1 b.2
  where
    by : (this : Bool) → (o.code == RELAY_MESSAGE) ≡ this
        → ((m : RelayOptions) → to_message m row ≡ Ok (up, Some (held, left)) → Holds m row t held)
        → (more : RelayOptions) → relay_code (code_of o.code) l o.octets ≡ Ok more
        → (if this then Ok (more, Some (o.octets, row)) else to_message more row) ≡ Ok (up, Some (held, left))
        → Holds l (Next o row) t held
    by true test again more found e =
        let is = ok_is _ _ e in
        let ups : more ≡ up = ap (λ (x : RelayOptions × Option (List ℕ × Row)). x.0) is in
        let some : Some (o.octets, row) ≡ Some (held, left) =
        ap (λ (x : RelayOptions × Option (List ℕ × Row)). x.1) is in
        let both : (o.octets ≡ held) × (row ≡ left) = some_both (o.octets, row) (held, left) some in
        let w = folded_whole relay_option up t left rest in
        let adds : AddsToRelay up w.0 t = relay_options_takes w.0 up t (ap (folded relay_option up) (sym w.1) ∙ rest) in
        let step = relay_step l up t o.octets w.0 o.code adds (found ∙ ap (λ (m : RelayOptions). Ok m) ups) in
        let none = none_behind up t w.0 (ap (λ (m : RelayOptions). m.relayed) (sym ups)
        ∙ sees_it l more o.octets o.code (eqb-true o.code RELAY_MESSAGE test) found) adds in
        record {
          options = o ∷ w.0;
          is = ap (λ (r : Row). Next o r) (both.1 ∙ w.1);
          adds = step;
          only = rw test (ap (λ (xs : List (List ℕ)). o.octets ∷ xs) none ∙ ap (λ (xs : List ℕ). xs ∷ []) both.0);
        }
    by false test again more found e =
        let later = again more e in
        record {
          options = o ∷ later.options;
          is = ap (λ (r : Row). Next o r) later.is;
          adds = relay_step l more t o.octets later.options o.code later.adds found;
          only = rw test later.only;
        }

-- ---- and back

pub record HeldAt (l : RelayOptions) (options : List DhcpOption) (t : RelayOptions) (held : List ℕ) : Type 0 where
  pub up : RelayOptions
  pub left : Row
  pub found : to_message l (whole options) ≡ Ok (up, Some (held, left))
  pub rest : folded relay_option up left ≡ Ok t

pub held_again : (options : List DhcpOption) (l t : RelayOptions) (held : List ℕ) → AddsToRelay l options t
    → data_of RELAY_MESSAGE options ≡ held ∷ [] → HeldAt l options t held
unfolding to_message relay_option
held_again [] l t held h e = absurd cc
held_again (o ∷ options) l t held h e =
    let k = relay_next l t o.octets options o.code h in
    by (o.code == RELAY_MESSAGE) refl e k (held_again options k.more t held k.later)
  where
    by : (this : Bool) → (o.code == RELAY_MESSAGE) ≡ this
        → (if this then o.octets ∷ data_of RELAY_MESSAGE options else data_of RELAY_MESSAGE options) ≡ held ∷ []
        → (k : NextOfRelay l o.octets o.code options t)
        → (data_of RELAY_MESSAGE options ≡ held ∷ [] → HeldAt k.more options t held) → HeldAt l (o ∷ options) t held
    by true test e k later =
        let heads : o.octets ≡ held = cc in
        record {
          up = k.more;
          left = whole options;
          found = rw (k.found, test) (ap (λ (xs : List ℕ). Ok (k.more, Some (xs, whole options))) heads);
          rest = relay_options_again options k.more t k.later;
        }
    by false test e k later =
        let at = later e in
        record { up = at.up; left = at.left; found = rw (k.found, test) at.found; rest = at.rest }
