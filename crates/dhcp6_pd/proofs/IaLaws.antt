-- What is read of an IA_PD is what its data spells.
use Rattle.std.proofs.Common.{◌≡◌, ℕ, Bool, true, false, List, [], ◌∷◌, length, drop, Option, Some, None, Ok, refl, sym}
use Rattle.std.proofs.Common.{ap, subst, ◌∙◌, arith, le-ltb}
use Rattle.std.specs.Prelude.{◌==◌, slice_index, if◌then◌else◌}
use Rattle.std.proofs.lemmas.Bool.{ltb-false}
use Rattle.text_fields.specs.Octets.{AreOctets}
use Rattle.prefix_range.specs.Prefix.{Prefix}
use Rattle.text_fields.specs.Parsing.{◌>>!◌}
use Rattle.dhcp6_pd.specs.declared.numbers.TheConstants.{IA_PREFIX}
use Rattle.dhcp6_pd.specs.declared.message.IaPd.{IaPd}
use Rattle.dhcp6_pd.specs.Options.{DhcpOption, data_of}
use Rattle.dhcp6_pd.specs.Rows.{row_of, folded}
use Rattle.dhcp6_pd.specs.Associations.{cleared, address_of, prefix_in, with_hint, ia_in}
use Rattle.dhcp6_pd.specs.Grammar.{SpellsPrefix, SpellsHint, SpellsIa}
use Rattle.dhcp6_pd.specs.declared.message.IaPart.{IaPart}
use Rattle.dhcp6_pd.specs.declared.message.IaPart.TheVariants.{First}
use Rattle.dhcp6_pd.proofs.Binds.{bind_ok, passed, ok_is}
use Rattle.dhcp6_pd.proofs.Wholes.{whole, folded_whole, are_options, row_is, octets_drop}
use Rattle.dhcp6_pd.proofs.Cleared.{prefix_made}

-- ---- the prefix

pub prefix_takes : (octets : List ℕ) (p : Prefix) → prefix_in octets ≡ Ok p → SpellsPrefix octets p
unfolding prefix_in
prefix_takes octets p e =
    let long = passed _ _ _ p e in
    let short = passed _ _ _ p long.1 in
    let is = ok_is _ _ short.1 in
    subst (SpellsPrefix octets) is (record {
      whole = ltb-false (length octets) 25 long.0;
      size = refl;
      short = ltb-false 128 (slice_index octets 8) short.0;
      address = refl;
    })

pub prefix_again : (octets : List ℕ) (p : Prefix) → SpellsPrefix octets p → prefix_in octets ≡ Ok p
prefix_again octets p h =
    let same : p ≡ record {
      address = cleared (slice_index octets 8) (address_of octets);
      length =
          slice_index octets 8;
    } =
    ap (λ (a : ℕ). record { address = a; length = p.length }) h.address
    ∙ ap (λ (n : ℕ). record { address = cleared n (address_of octets); length = n }) h.size in
    prefix_made octets p h.whole (omega (arith, h.size, h.short)) same

-- ---- the hint

-- behind the first IAPREFIX nothing changes it
hint_kept : (options : List DhcpOption) (p : Prefix) → folded with_hint (Some p) (whole options) ≡ Ok (Some p)
unfolding folded with_hint
hint_kept [] p = refl
hint_kept (o ∷ options) p = hint_kept options p

-- what the first option makes of no hint
hint_step : (o : DhcpOption) (options : List DhcpOption) → folded with_hint None (whole (o ∷ options))
    ≡ (if o.code == 26 then (prefix_in o.octets >>! λ p. Ok (Some p)) else Ok None) >>! λ hint.
    folded with_hint hint (whole options)
unfolding folded with_hint
hint_step o options = refl

pub hint_takes : (options : List DhcpOption) (hint : Option Prefix) → folded with_hint None (whole options) ≡ Ok hint
    → SpellsHint (data_of IA_PREFIX options) hint
unfolding folded
hint_takes [] hint e = sym (ok_is _ _ e)
hint_takes (o ∷ options) hint e = by (o.code == IA_PREFIX) (sym (hint_step o options) ∙ e) (hint_takes options hint)
  where
    by : (t : Bool) → ((if t then (prefix_in o.octets >>! λ p. Ok (Some p)) else Ok None) >>! λ hint.
        folded with_hint hint (whole options)) ≡ Ok hint
        → (folded with_hint None (whole options) ≡ Ok hint → SpellsHint (data_of IA_PREFIX options) hint)
        → SpellsHint (if t then o.octets ∷ data_of IA_PREFIX options else data_of IA_PREFIX options) hint
    by true e later =
        let b = bind_ok (prefix_in o.octets >>! λ p. Ok (Some p)) _ hint e in
        let c = bind_ok (prefix_in o.octets) _ b.0 b.1 in
        let some : b.0 ≡ Some c.0 = sym (ok_is _ _ c.2) in
        let rest : folded with_hint (Some c.0) (whole options) ≡ Ok hint =
        ap (λ (h : Option Prefix). folded with_hint h (whole options)) (sym some) ∙ b.2 in
        (c.0, prefix_takes o.octets c.0 c.1, ok_is _ _ (sym rest ∙ hint_kept options c.0))
    by false e later = later e

pub hint_again : (options : List DhcpOption) (hint : Option Prefix) → SpellsHint (data_of IA_PREFIX options) hint
    → folded with_hint None (whole options) ≡ Ok hint
unfolding folded
hint_again [] hint h = ap (λ (x : Option Prefix). Ok x) (sym h)
hint_again (o ∷ options) hint h = hint_step o options ∙ by (o.code == IA_PREFIX) h (hint_again options hint)
  where
    by : (t : Bool) → SpellsHint (if t then o.octets ∷ data_of IA_PREFIX options else data_of IA_PREFIX options) hint
        → (SpellsHint (data_of IA_PREFIX options) hint → folded with_hint None (whole options) ≡ Ok hint)
        → ((if t then (prefix_in o.octets >>! λ p. Ok (Some p)) else Ok None) >>! λ hint.
        folded with_hint hint (whole options)) ≡ Ok hint
    by true h later = rw (prefix_again o.octets h.0 h.1) (hint_kept options h.0
        ∙ ap (λ (x : Option Prefix). Ok x) (sym h.2))
    by false h later = later h

-- ---- the IA_PD

pub ia_takes : (octets : List ℕ) (ia : IaPd) → AreOctets octets → ia_in octets ≡ Ok ia → SpellsIa octets ia
unfolding ia_in
ia_takes octets ia h e =
    let long = passed _ _ _ ia e in
    let b = bind_ok (folded with_hint None (row_of (drop 12 octets))) _ ia long.1 in
    let all = folded_whole with_hint None b.0 (row_of (drop 12 octets)) b.1 in
    let is = ok_is _ _ b.2 in
    subst (SpellsIa octets) is (record {
      whole = ltb-false (length octets) 12 long.0;
      iaid = refl;
      part = refl;
      options = all.0;
      spelled = are_options all.0 (drop 12 octets) (octets_drop 12 octets h) all.1;
      hint = hint_takes all.0 b.0 (ap (folded with_hint None) (sym all.1) ∙ b.1);
    })

pub ia_again : (octets : List ℕ) (ia : IaPd) → SpellsIa octets ia → ia_in octets ≡ Ok ia
unfolding ia_in
ia_again octets ia h =
    let hint : folded with_hint None (row_of (drop 12 octets)) ≡ Ok ia.hint =
    ap (folded with_hint None) (row_is (drop 12 octets) h.options h.spelled)
    ∙ hint_again h.options ia.hint h.hint in
    rw (le-ltb (length octets) 12 h.whole, hint) (ap (λ (n : ℕ). Ok (record { iaid = n; hint = ia.hint; part = First })) (sym h.iaid)
    ∙ ap (λ (p : IaPart). Ok (record ia { part = p })) (sym h.part))
