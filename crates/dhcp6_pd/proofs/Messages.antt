-- A message by its type, and the message that a relay's holds.
use Rattle.std.proofs.Common.{◌≡◌, ◌≢◌, ℕ, zero, suc, ◌-◌, ◌≤◌, List, [], ◌∷◌, length, take, drop, Option, Some, None}
use Rattle.std.proofs.Common.{Result, Ok, Err, refl, sym, ap, subst, ◌∙◌, arith, le-ltb}
use Rattle.std.specs.List.{slice_get}
use Rattle.std.specs.Borrow.{Bor}
use Rattle.std.proofs.lemmas.Bool.{eq-eqb, ne_eqb}
use Rattle.std.proofs.lemmas.List.{take_rest}
use Rattle.text_fields.specs.Parsing.{◌>>!◌}
use Rattle.dhcp6_pd.specs.declared.error.PdFault.{PdFault}
use Rattle.dhcp6_pd.specs.declared.error.PdFault.TheVariants.{Short}
use Rattle.dhcp6_pd.specs.declared.error.PdError.{PdError}
use Rattle.dhcp6_pd.specs.declared.error.PdError.TheVariants.{Fault, TooLong, Memory}
use Rattle.dhcp6_pd.specs.declared.numbers.TheConstants.{RELAY_FORWARD}
use Rattle.dhcp6_pd.specs.declared.message.Relay.{Relay}
use Rattle.dhcp6_pd.specs.declared.relay_options.RelayOptions.{RelayOptions}
use Rattle.dhcp6_pd.specs.declared.message_class.MessageClass.{MessageClass}
use Rattle.dhcp6_pd.specs.declared.message_class.MessageKind.{MessageKind}
use Rattle.dhcp6_pd.specs.declared.client_options.ClientOptions.{ClientOptions}
use Rattle.dhcp6_pd.specs.declared.requested_items.RequestedItems.{RequestedItems}
use Rattle.dhcp6_pd.specs.declared.unvalidated.UnvalidatedMessage.{UnvalidatedMessage}
use Rattle.dhcp6_pd.specs.Rows.{Row, row_of, folded}
use Rattle.dhcp6_pd.specs.Parsing.{found_in}
use Rattle.dhcp6_pd.specs.Answers.{Gives}
use Rattle.dhcp6_pd.specs.Faults.{kind_of, or_ignored, no_relay_options, relay_option, to_message, relay_of, by_relay}
use Rattle.dhcp6_pd.specs.Faults.{client_options_in, client_message, client_in, behind, relay_in, message_in}
use Rattle.dhcp6_pd.specs.RequestedItems.{wishes_in, or_none}

first_same : (x y : ℕ) (rest : List ℕ) → Some x ≡ slice_get (y ∷ rest) 0 → y ≡ x
first_same x y rest e = cc

-- a client's message, or one that is not parse
pub type_other : (reads : MessageClass) (left : ℕ) (octets : List ℕ) (x : ℕ) → Some x ≡ slice_get octets 0 → x ≢ RELAY_FORWARD
    → message_in reads left octets ≡ or_ignored (kind_of reads x) octets
unfolding message_in
type_other reads zero [] x e ne = absurd cc
type_other reads (suc left) [] x e ne = absurd cc
type_other reads zero (y ∷ rest) x e ne =
    let same = first_same x y rest e in
    rw (ne_eqb y RELAY_FORWARD (λ h. ne (sym same ∙ h))) (ap (λ (k : ℕ). or_ignored (kind_of reads k) (y ∷ rest)) same)
type_other reads (suc left) (y ∷ rest) x e ne =
    let same = first_same x y rest e in
    rw (ne_eqb y RELAY_FORWARD (λ h. ne (sym same ∙ h))) (ap (λ (k : ℕ). or_ignored (kind_of reads k) (y ∷ rest)) same)

less_one : (n : ℕ) → n ≡ suc n - 1
less_one n = omega arith

-- a relay's message
pub type_relay : (reads : MessageClass) (left : ℕ) (octets : List ℕ) (x : ℕ) (l : RelayOptions) (rest : List ℕ) → Some x ≡ slice_get octets 0
    → x ≡ RELAY_FORWARD → left ≢ 0 → 34 ≤ length octets → l ≡ no_relay_options
    → rest ≡ take (length octets - 34) (drop 34 octets) → message_in reads left octets
    ≡ behind (message_in reads (left - 1)) octets (to_message l (row_of rest))
unfolding message_in relay_in
type_relay reads zero octets x l rest e this some whole none is = absurd (some refl)
type_relay reads (suc left) [] x l rest e this some whole none is = absurd (omega arith)
type_relay reads (suc left) (y ∷ more) x l rest e this some whole none is =
    let same = first_same x y more e in
    let octets = y ∷ more in
    rw (eq-eqb y RELAY_FORWARD (same ∙ this), le-ltb (length (y ∷ more)) 34 whole, none, is, take_rest (y ∷ more) 34)
    (ap (λ (k : ℕ). behind (message_in reads k) (y ∷ more) (to_message no_relay_options (row_of (drop 34 (y ∷ more)))))
    (less_one left))

-- what was found, where the reader lends it
pub found_some : (r : Result (RelayOptions × Option (List ℕ × Row)) PdFault) (l : RelayOptions) (row : Row)
    (found : Option (Bor (List ℕ))) (b : Bor (List ℕ)) → r ≡ Ok (l, found_in row found) → found ≡ Some b
    → r ≡ Ok (l, Some (b.now, row))
found_some r l row found b e is = subst (λ (f : Option (Bor (List ℕ))). r ≡ Ok (l, found_in row f)) is e

pub found_none : (parse : List ℕ → Result UnvalidatedMessage PdFault) (octets : List ℕ)
    (r : Result (RelayOptions × Option (List ℕ × Row)) PdFault) (l : RelayOptions) (row : Row)
    (found : Option (Bor (List ℕ))) → r ≡ Ok (l, found_in row found) → found ≡ None
    → behind parse octets r ≡ Err Short
found_none parse octets r l row found e none =
    ap (behind parse octets) (subst (λ (f : Option (Bor (List ℕ))). r ≡ Ok (l, found_in row f)) none e)

-- an error before the message
pub fails_before : {X : Type 0} (view : X → RelayOptions × Option (List ℕ × Row)) (parse : List ℕ
    → Result UnvalidatedMessage PdFault) (octets : List ℕ) (r : Result (RelayOptions × Option (List ℕ × Row)) PdFault)
    (e : PdError)
    → Gives {X = X} view (Err e) r → Gives (λ u. u) (Err e) (behind parse octets r)
fails_before view parse octets r (Fault fault) h = ap (behind parse octets) h
fails_before view parse octets r TooLong h = h
fails_before view parse octets r Memory h = tt

inside : (parse : List ℕ → Result UnvalidatedMessage PdFault) (octets : List ℕ)
    (r : Result (RelayOptions × Option (List ℕ × Row)) PdFault) (l : RelayOptions) (row : Row) (inner : List ℕ)
    (h : Result UnvalidatedMessage PdFault) → r ≡ Ok (l, Some (inner, row)) → parse inner ≡ h
    → behind parse octets r ≡ (h >>! λ u. folded relay_option l row >>! λ last. Ok (by_relay (relay_of octets last) u))
inside parse octets r l row inner h e is = ap (behind parse octets) e
    ∙ ap (λ (x : Result UnvalidatedMessage PdFault). x >>! λ u. folded relay_option l row >>! λ last.
    Ok (by_relay (relay_of octets last) u)) is

-- an error in it
pub fails_inside : (parse : List ℕ → Result UnvalidatedMessage PdFault) (octets : List ℕ)
    (r : Result (RelayOptions × Option (List ℕ × Row)) PdFault) (l : RelayOptions) (row : Row) (inner : List ℕ)
    (e : PdError) → r ≡ Ok (l, Some (inner, row))
    → Gives (λ u. u) (Err e) (parse inner) → Gives (λ u. u) (Err e) (behind parse octets r)
fails_inside parse octets r l row inner (Fault fault) e h = inside parse octets r l row inner (Err fault) e h
fails_inside parse octets r l row inner TooLong e h = h
fails_inside parse octets r l row inner Memory e h = tt

-- an error behind it
pub fails_behind : (parse : List ℕ → Result UnvalidatedMessage PdFault) (octets : List ℕ)
    (r : Result (RelayOptions × Option (List ℕ × Row)) PdFault) (l new : RelayOptions) (row : Row) (inner : List ℕ)
    (u : UnvalidatedMessage) (e : PdError)
    → r ≡ Ok (l, Some (inner, row)) → parse inner ≡ Ok u
    → Gives {X = Unit {0}} {Y = RelayOptions} (λ _. new) (Err e) (folded relay_option l row)
    → Gives (λ u. u) (Err e) (behind parse octets r)
fails_behind parse octets r l new row inner u (Fault fault) e is h =
    inside parse octets r l row inner (Ok u) e is
    ∙ ap (λ (x : Result RelayOptions PdFault). x >>! λ last. Ok (by_relay (relay_of octets last) u)) h
fails_behind parse octets r l new row inner u TooLong e is h = h
fails_behind parse octets r l new row inner u Memory e is h = tt

-- all of it
pub is_whole : (parse : List ℕ → Result UnvalidatedMessage PdFault) (octets : List ℕ)
    (r : Result (RelayOptions × Option (List ℕ × Row)) PdFault) (l : RelayOptions) (row : Row) (inner : List ℕ)
    (u v : UnvalidatedMessage) (relay : Relay) (last : RelayOptions)
    → r ≡ Ok (l, Some (inner, row)) → parse inner ≡ Ok u → folded relay_option l row ≡ Ok last
    → relay ≡ relay_of octets last → v ≡ record u { relays = relay ∷ u.relays } → behind parse octets r ≡ Ok v
is_whole parse octets r l row inner u v relay last e is rest made all =
    inside parse octets r l row inner (Ok u) e is
    ∙ (ap (λ (x : Result RelayOptions PdFault). x >>! λ last. Ok (by_relay (relay_of octets last) u)) rest
    ∙ (ap (λ (x : Relay). Ok (by_relay x u)) (sym made) ∙ ap (λ (x : UnvalidatedMessage). Ok x) (sym all)))

-- a client's message by what its options say
pub is_client : (kind : MessageKind) (octets : List ℕ) (kept : ClientOptions) (wishes : RequestedItems) (relays : List Relay)
    (xid requested : List ℕ) → 4 ≤ length octets → client_options_in (take (length octets - 4) (drop 4 octets)) ≡ Ok kept
    → wishes_in (take (length octets - 4) (drop 4 octets)) ≡ Ok wishes → xid ≡ take 3 (drop 1 octets)
    → requested ≡ or_none wishes.requested → relays ≡ []
    → client_in kind octets
    ≡ Ok (record (client_message kind octets kept wishes) { relays = relays; xid = xid; requested = requested })
unfolding client_in
is_client kind octets kept wishes relays xid requested whole options more is asked none =
    let rest = sym (take_rest octets 4) in
    let first : client_options_in (drop 4 octets) ≡ Ok kept = ap client_options_in rest ∙ options in
    let then : wishes_in (drop 4 octets) ≡ Ok wishes = ap wishes_in rest ∙ more in
    rw (le-ltb (length octets) 4 whole, first, then, is, asked, none) refl
