-- The loop over a relay's options.
use Rattle.std.proofs.Common.{◌≡◌, ℕ, true, false, List, Option, Some, None, Result, Ok, Err, refl, sym, ap, ◌∙◌}
use Rattle.std.specs.Prelude.{◌==◌, if◌then◌else◌}
use Rattle.text_fields.specs.Parsing.{◌>>!◌}
use Rattle.dhcp6_pd.specs.declared.numbers.TheConstants.{RELAY_MESSAGE}
use Rattle.dhcp6_pd.specs.declared.error.PdFault.{PdFault}
use Rattle.dhcp6_pd.specs.declared.error.PdError.{PdError}
use Rattle.dhcp6_pd.specs.declared.error.PdError.TheVariants.{Fault, TooLong, Memory}
use Rattle.dhcp6_pd.specs.declared.relay_options.RelayOptions.{RelayOptions}
use Rattle.dhcp6_pd.specs.Options.{DhcpOption}
use Rattle.dhcp6_pd.specs.Rows.{Row, Done, Broken, Next}
use Rattle.dhcp6_pd.specs.Answers.{Gives}
use Rattle.dhcp6_pd.specs.Faults.{relay_option, to_message}

-- what is known so far and the options that are left make all
pub record IsOnTheWay (l : RelayOptions) (row : Row) (total : Result (RelayOptions × Option (List ℕ × Row)) PdFault) :
    Type 0 where
  pub so_far : to_message l row ≡ total

one_more : (l : RelayOptions) (row : Row) (o : DhcpOption) (r : Result RelayOptions PdFault) → relay_option l o ≡ r
    → to_message l (Next o row) ≡ (r >>! λ more. if o.code == RELAY_MESSAGE then Ok (
      more,
      Some (o.octets, row),
    ) else to_message more row)
unfolding to_message
one_more l row o r e = rw e refl

pub goes_on : (l more : RelayOptions) (row left : Row) (o : DhcpOption)
    (total : Result (RelayOptions × Option (List ℕ × Row)) PdFault) → IsOnTheWay l row total
    → row ≡ Next o left → relay_option l o ≡ Ok more → (o.code == RELAY_MESSAGE) ≡ false → IsOnTheWay more left total
goes_on l more row left o total h e found other =
    record { so_far = sym (ap (to_message l) e ∙ (one_more l left o (Ok more) found ∙ rw other refl)) ∙ h.so_far }

pub comes : (l more : RelayOptions) (row left : Row) (o : DhcpOption)
    (total : Result (RelayOptions × Option (List ℕ × Row)) PdFault) → IsOnTheWay l row total
    → row ≡ Next o left → relay_option l o ≡ Ok more → (o.code == RELAY_MESSAGE) ≡ true
    → total ≡ Ok (more, Some (o.octets, left))
comes l more row left o total h e found this =
    sym h.so_far ∙ (ap (to_message l) e ∙ (one_more l left o (Ok more) found ∙ rw this refl))

pub breaks : (l : RelayOptions) (row : Row) (total : Result (RelayOptions × Option (List ℕ × Row)) PdFault)
    (fault : PdFault) → IsOnTheWay l row total → row ≡ Broken fault → total ≡ Err fault
unfolding to_message
breaks l row total fault h e = sym h.so_far ∙ ap (to_message l) e

pub ends : (l : RelayOptions) (row : Row) (total : Result (RelayOptions × Option (List ℕ × Row)) PdFault)
    → IsOnTheWay l row total → row ≡ Done → total ≡ Ok (l, None)
unfolding to_message
ends l row total h e = sym h.so_far ∙ ap (to_message l) e

pub fails : (l : RelayOptions) (row left : Row) (o : DhcpOption)
    (total : Result (RelayOptions × Option (List ℕ × Row)) PdFault) (fault : PdFault) → IsOnTheWay l row total
    → row ≡ Next o left → relay_option l o ≡ Err fault → total ≡ Err fault
fails l row left o total fault h e found = sym h.so_far ∙ (ap (to_message l) e ∙ one_more l left o (Err fault) found)

pub fails_with : {X : Type 0} (view : X → RelayOptions × Option (List ℕ × Row)) (l new : RelayOptions) (row left : Row)
    (o : DhcpOption) (total : Result (RelayOptions × Option (List ℕ × Row)) PdFault) (e : PdError)
    → IsOnTheWay l row total
    → row ≡ Next o left → Gives {X = Unit {0}} {Y = RelayOptions} (λ _. new) (Err e) (relay_option l o)
    → Gives {X = X} view (Err e) total
fails_with view l new row left o total (Fault fault) h e found = fails l row left o total fault h e found
fails_with view l new row left o total TooLong h e found = found
fails_with view l new row left o total Memory h e found = tt
