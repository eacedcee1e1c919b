-- What is read of a client's wishes is what its options say.
use Rattle.std.proofs.Common.{◌≡◌, ℕ, ◌+◌, ◌%◌, ◌^◌, ◌<◌, Bool, true, false, List, [], ◌∷◌, ◌++◌, length, Option, Some}
use Rattle.std.proofs.Common.{None, Ok, refl, sym, ap, subst, ◌∙◌, arith, append_assoc, append-nil, inl, inr}
use Rattle.std.specs.Prelude.{◌==◌, nat_lt, if◌then◌else◌}
use Rattle.std.specs.List.{AllByRecursion, flat_map}
use Rattle.std.proofs.lemmas.Bool.{cases_eq, ne_eqb, eqb-true, eq-eqb}
use Rattle.byteorder.specs.Endian.{big_bytes, big_number}
use Rattle.byteorder.specs.Numbers.{big_number-reads_back}
use Rattle.text_fields.specs.Octets.{AreOctets}
use Rattle.dhcp6_pd.specs.declared.numbers.TheConstants.{OPTION_REQUEST, IA_NA, IA_TA, IA_PD}
use Rattle.dhcp6_pd.specs.declared.requested_items.RequestedItems.{RequestedItems}
use Rattle.dhcp6_pd.specs.declared.message.IaPd.{IaPd}
use Rattle.dhcp6_pd.specs.Options.{DhcpOption, IsOption, data_of}
use Rattle.dhcp6_pd.specs.Rows.{folded}
use Rattle.dhcp6_pd.specs.Associations.{prefixes_in}
use Rattle.dhcp6_pd.specs.Grammar.{AreCodes, SpellsRequest, iaids_in}
use Rattle.dhcp6_pd.specs.RequestedItems.{codes_of, request_in, request_once, with_iaid, wish_option, or_none}
use Rattle.dhcp6_pd.proofs.Binds.{bind_ok, allowed, ok_is, put}
use Rattle.dhcp6_pd.proofs.Codes.{option_of}
use Rattle.dhcp6_pd.proofs.Wholes.{whole, two_octets}

-- ---- the codes of an option request

pub codes_takes : (octets : List ℕ) → AreOctets octets → length octets % 2 ≡ 0 → AreCodes octets (codes_of octets)
codes_takes [] h even = record { each = tt; spelled = refl }
codes_takes (x ∷ []) h even = absurd (omega (arith, even))
codes_takes (x ∷ y ∷ rest) h even =
    let more = codes_takes rest h.1.1 (omega (arith, even)) in
    record {
      each = (omega (arith, h.0, h.1.0), more.each);
      spelled = ap (λ (xs : List ℕ). x ∷ y ∷ xs) more.spelled
          ∙ ap (λ (xs : List ℕ). xs ++ flat_map (big_bytes 2) (codes_of rest)) (sym (two_octets x y h.0 h.1.0));
    }

codes_back : (codes : List ℕ) → AllByRecursion (λ c. c < 2 ^ 16) codes → codes_of (flat_map (big_bytes 2) codes) ≡ codes
codes_back [] h = refl
codes_back (c ∷ codes) h =
    let rest = flat_map (big_bytes 2) codes in
    ap (λ (n : ℕ). n ∷ codes_of rest) (big_number-reads_back 2 c rest h.0)
    ∙ ap (λ (cs : List ℕ). c ∷ cs) (codes_back codes h.1)

even_length : (codes : List ℕ) → length (flat_map (big_bytes 2) codes) % 2 ≡ 0
even_length [] = refl
even_length (c ∷ codes) = let more = even_length codes in omega (arith, more)

pub codes_again : (octets codes : List ℕ) → AreCodes octets codes → (length octets % 2 ≡ 0) × (codes_of octets ≡ codes)
codes_again octets codes h = (
  ap (λ (xs : List ℕ). length xs % 2) h.spelled ∙ even_length codes,
  ap codes_of h.spelled ∙ codes_back codes h.each,
)

-- ---- the option request

-- an option request that stands at most once
abbrev pub Asks : Option (List ℕ) → List (List ℕ) → Option (List ℕ) → Type 0
Asks before [] after = after ≡ before
Asks before (octets ∷ more) after =
    (before ≡ None) × (codes : List ℕ) × AreCodes octets codes × (more ≡ []) × (after ≡ Some codes)

asks_last : (codes : List ℕ) (all : List (List ℕ)) (after : Option (List ℕ)) → Asks (Some codes) all after
    → (all ≡ []) × (after ≡ Some codes)
asks_last codes [] after h = (refl, h)
asks_last codes (octets ∷ all) after h = absurd (let e = h.0 in cc)

request_takes : (octets codes : List ℕ) → AreOctets octets → request_in octets ≡ Ok codes → AreCodes octets codes
unfolding request_in
request_takes octets codes fits e =
    let a = allowed _ _ _ codes e in
    subst (AreCodes octets) (ok_is _ _ a.1) (codes_takes octets fits (eqb-true (length octets % 2) 0 a.0))

request_again : (octets codes : List ℕ) → AreCodes octets codes → request_in octets ≡ Ok codes
unfolding request_in
request_again octets codes h =
    let c = codes_again octets codes h in
    rw (eq-eqb (length octets % 2) 0 c.0) (ap (λ (cs : List ℕ). Ok cs) c.1)

asks_takes : (before middle after : Option (List ℕ)) (octets : List ℕ) (all : List (List ℕ)) → AreOctets octets
    → request_once before octets ≡ Ok middle → Asks middle all after → Asks before (octets ∷ all) after
unfolding request_once
asks_takes None middle after octets all fits e h =
    let b = bind_ok (request_in octets) _ middle e in
    let l = asks_last b.0 all after (subst (λ (o : Option (List ℕ)). Asks o all after) (sym (ok_is _ _ b.2)) h) in
    (refl, b.0, request_takes octets b.0 fits b.1, l.0, l.1)
asks_takes (Some codes) middle after octets all fits e h = absurd cc

asks_again : (before after : Option (List ℕ)) (octets : List ℕ) (all : List (List ℕ)) → Asks before (octets ∷ all) after
    → (codes : List ℕ) × (request_once before octets ≡ Ok (Some codes)) × Asks (Some codes) all after
unfolding request_once
asks_again before after octets all h = (
  h.1,
  ap (λ (o : Option (List ℕ)). request_once o octets) h.0 ∙ rw (request_again octets h.1 h.2) refl,
  subst (λ (xs : List (List ℕ)). Asks (Some h.1) xs after) (sym h.3) h.4,
)

-- ---- identity associations

pub one_more : (least : ℕ) (ias : List ℕ) (octets : List ℕ) (all : List (List ℕ))
    → with_iaid least ias octets ++ iaids_in least all ≡ ias ++ iaids_in least (octets ∷ all)
unfolding with_iaid
one_more least ias octets all = by (nat_lt (length octets) least)
  where
    by : (t : Bool) → (if t then ias else ias ++ big_number 4 octets ∷ []) ++ iaids_in least all
        ≡ ias ++ (if t then iaids_in least all else big_number 4 octets ∷ iaids_in least all)
    by true = refl
    by false = append_assoc ias (big_number 4 octets ∷ []) (iaids_in least all)

-- ---- each option by its code

record IsOtherWish (code : ℕ) : Type 0 where
  pub request : (code == OPTION_REQUEST) ≡ false
  pub address : (code == IA_NA) ≡ false
  pub temporary : (code == IA_TA) ≡ false
  pub association : (code == IA_PD) ≡ false

by_code : (P : ℕ → Type 0) → P OPTION_REQUEST → P IA_NA → P IA_TA → P IA_PD → ((code : ℕ) → IsOtherWish code → P code)
    → (code : ℕ) → P code
by_code P request address temporary association other code =
    elim (cases_eq code OPTION_REQUEST) [
      | inl e ↦ subst P (sym e) request
      | inr a ↦ elim (cases_eq code IA_NA) [
        | inl e ↦ subst P (sym e) address
        | inr b ↦ elim (cases_eq code IA_TA) [
          | inl e ↦ subst P (sym e) temporary
          | inr c ↦ elim (cases_eq code IA_PD) [
            | inl e ↦ subst P (sym e) association
            | inr d ↦ other code (record {
              request = ne_eqb code OPTION_REQUEST a;
              address = ne_eqb code IA_NA b;
              temporary = ne_eqb code IA_TA c;
              association = ne_eqb code IA_PD d;
            })
          ]
        ]
      ]
    ]

-- what options add to what is known of a client's wishes
pub record AddsWishes (w : RequestedItems) (options : List DhcpOption) (t : RequestedItems) : Type 0 where
  pub requested : Asks w.requested (data_of OPTION_REQUEST options) t.requested
  pub addresses : t.addresses ≡ w.addresses ++ iaids_in 12 (data_of IA_NA options)
  pub temporaries : t.temporaries ≡ w.temporaries ++ iaids_in 4 (data_of IA_TA options)
  pub prefixes : t.prefixes ≡ w.prefixes ++ flat_map prefixes_in (data_of IA_PD options)

other_wish : (code : ℕ) (w : RequestedItems) (octets : List ℕ) → IsOtherWish code → wish_option w (option_of code octets) ≡ Ok w
unfolding wish_option
other_wish code w octets h = rw (h.request, h.address, h.temporary, h.association) refl

-- ---- one option before others

wish_step : (w more t : RequestedItems) (octets : List ℕ) (options : List DhcpOption) (code : ℕ) → AreOctets octets
    → AddsWishes more options t → wish_option w (option_of code octets) ≡ Ok more
    → AddsWishes w (option_of code octets ∷ options) t
unfolding wish_option
wish_step w more t octets options code fits h =
    by_code (λ (k : ℕ). wish_option w (option_of k octets) ≡ Ok more → AddsWishes w (option_of k octets ∷ options) t)
    (λ e. (let k = put Adds (request_once w.requested octets) (λ x. record w { requested = x }) more e h in
    record {
      requested = asks_takes w.requested k.0 t.requested octets (data_of OPTION_REQUEST options) fits k.1 k.2.requested;
      addresses = k.2.addresses;
      temporaries = k.2.temporaries;
      prefixes = k.2.prefixes;
    }))
    (λ e. (let k = subst Adds (sym (ok_is _ _ e)) h in
    record {
      requested = k.requested;
      addresses = k.addresses ∙ one_more 12 w.addresses octets (data_of IA_NA options);
      temporaries = k.temporaries;
      prefixes = k.prefixes;
    }))
    (λ e. (let k = subst Adds (sym (ok_is _ _ e)) h in
    record {
      requested = k.requested;
      addresses = k.addresses;
      temporaries = k.temporaries ∙ one_more 4 w.temporaries octets (data_of IA_TA options);
      prefixes = k.prefixes;
    }))
    (λ e. (let k = subst Adds (sym (ok_is _ _ e)) h in
    record {
      requested = k.requested;
      addresses = k.addresses;
      temporaries = k.temporaries;
      prefixes = k.prefixes
          ∙ append_assoc w.prefixes (prefixes_in octets) (flat_map prefixes_in (data_of IA_PD options));
    }))
    (λ k other e. (let same = subst Adds (sym (ok_is _ _ (sym (other_wish k w octets other) ∙ e))) h in
    record {
      requested = rw other.request same.requested;
      addresses = rw other.address same.addresses;
      temporaries = rw other.temporary same.temporaries;
      prefixes = rw other.association same.prefixes;
    }))
    code
  where
    Adds : RequestedItems → Type 0
    Adds m = AddsWishes m options t

pub wishes_takes : (options : List DhcpOption) (w t : RequestedItems) → AllByRecursion IsOption options
    → folded wish_option w (whole options) ≡ Ok t → AddsWishes w options t
unfolding folded
wishes_takes [] w t each e = rw (sym (ok_is _ _ e)) (record {
  requested = refl;
  addresses = sym (append-nil w.addresses);
  temporaries = sym (append-nil w.temporaries);
  prefixes = sym (append-nil w.prefixes);
})
wishes_takes (o ∷ options) w t each e =
    let b = bind_ok (wish_option w o) _ t e in
    wish_step w b.0 t o.octets options o.code each.0.octets (wishes_takes options b.0 t each.1 b.2) b.1

-- ---- and back

record NextWish (w : RequestedItems) (octets : List ℕ) (code : ℕ) (options : List DhcpOption) (t : RequestedItems) : Type 0 where
  more : RequestedItems
  found : wish_option w (option_of code octets) ≡ Ok more
  later : AddsWishes more options t

wish_next : (w t : RequestedItems) (octets : List ℕ) (options : List DhcpOption) (code : ℕ)
    → AddsWishes w (option_of code octets ∷ options) t → NextWish w octets code options t
unfolding wish_option
wish_next w t octets options code =
    by_code (λ (k : ℕ). AddsWishes w (option_of k octets ∷ options) t → NextWish w octets k options t)
    (λ h. (let k = asks_again w.requested t.requested octets (data_of OPTION_REQUEST options) h.requested in record {
      more = record w { requested = Some k.0 };
      found = rw k.1 refl;
      later = record {
        requested = k.2;
        addresses = h.addresses;
        temporaries = h.temporaries;
        prefixes = h.prefixes;
      };
    }))
    (λ h. record {
      more = record w { addresses = with_iaid 12 w.addresses octets };
      found = refl;
      later = record {
        requested = h.requested;
        addresses = h.addresses ∙ sym (one_more 12 w.addresses octets (data_of IA_NA options));
        temporaries = h.temporaries;
        prefixes = h.prefixes;
      };
    })
    (λ h. record {
      more = record w { temporaries = with_iaid 4 w.temporaries octets };
      found = refl;
      later = record {
        requested = h.requested;
        addresses = h.addresses;
        temporaries = h.temporaries ∙ sym (one_more 4 w.temporaries octets (data_of IA_TA options));
        prefixes = h.prefixes;
      };
    })
    (λ h. record {
      more = record w { prefixes = w.prefixes ++ prefixes_in octets };
      found = refl;
      later = record {
        requested = h.requested;
        addresses = h.addresses;
        temporaries = h.temporaries;
        prefixes = h.prefixes
            ∙ sym (append_assoc w.prefixes (prefixes_in octets) (flat_map prefixes_in (data_of IA_PD options)));
      };
    })
    (λ k other h. record {
      more = w;
      found = other_wish k w octets other;
      later = record {
        requested = rw other.request at h.requested;
        addresses = rw other.address at h.addresses;
        temporaries = rw other.temporary at h.temporaries;
        prefixes = rw other.association at h.prefixes;
      };
    })
    code

wish_same : (w t : RequestedItems) → AddsWishes w [] t → w ≡ t
wish_same w t h =
    ap (λ (x : Option (List ℕ)). record w { requested = x }) (sym h.requested)
    ∙ (ap (λ (x : List ℕ). record w { requested = t.requested; addresses = x })
    (sym (h.addresses ∙ append-nil w.addresses))
    ∙ (ap (λ (x : List ℕ). record w { requested = t.requested; addresses = t.addresses; temporaries = x })
    (sym (h.temporaries ∙ append-nil w.temporaries))
    ∙ ap (λ (x : List IaPd). record t { prefixes = x }) (sym (h.prefixes ∙ append-nil w.prefixes))))

pub wishes_again : (options : List DhcpOption) (w t : RequestedItems) → AddsWishes w options t
    → folded wish_option w (whole options) ≡ Ok t
unfolding folded
wishes_again [] w t h = ap (λ (x : RequestedItems). Ok x) (wish_same w t h)
wishes_again (o ∷ options) w t h =
    let k = wish_next w t o.octets options o.code h in
    rw k.found (wishes_again options k.more t k.later)

-- ---- a message's wishes

pub asks_spelled : (all : List (List ℕ)) (after : Option (List ℕ)) → Asks None all after
    → SpellsRequest all (or_none after)
asks_spelled [] after h = ap or_none h
asks_spelled (octets ∷ []) after h = subst (λ (o : Option (List ℕ)). AreCodes octets (or_none o)) (sym h.4) h.2
asks_spelled (octets ∷ more ∷ all) after h = absurd (let e = h.3 in cc)

-- what was asked for, where an option request stands there
abbrev pub asked_in : List (List ℕ) → List ℕ → Option (List ℕ)
asked_in [] codes = None
asked_in (octets ∷ all) codes = Some codes

pub asks_of : (all : List (List ℕ)) (codes : List ℕ) → SpellsRequest all codes
    → Asks None all (asked_in all codes) × (or_none (asked_in all codes) ≡ codes)
asks_of [] codes h = (refl, sym h)
asks_of (octets ∷ []) codes h = ((refl, codes, h, refl, refl), refl)
asks_of (octets ∷ more ∷ all) codes h = absurd h
