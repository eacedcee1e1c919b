-- Which options an answer gets (RFC 8415, sections 18.3.9, 18.3.10, 21.7, 21.8, 21.12 and 21.23).
use Rattle.std.specs.Prelude.{ℕ, Bool, true, false, ◌==◌, List, filter, if◌then◌else◌}
use Rattle.std.specs.List.{list_any}
use Rattle.router_options.specs.declared.choosing.Occasion.{Occasion}
use Rattle.router_options.specs.declared.choosing.Occasion.TheVariants.{Advertise, Reply, Information}
use Rattle.router_options.specs.Ready.{Ready}

abbrev pub is_asked : List ℕ → ℕ → Bool
is_asked requested code = list_any (λ asked. asked == code) requested

abbrev pub is_advertise : Occasion → Bool
is_advertise Advertise = true
is_advertise Reply = false
is_advertise Information = false

abbrev pub is_of_lease : Occasion → Bool
is_of_lease Information = false
is_of_lease Advertise = true
is_of_lease Reply = true

-- a preference goes into each ADVERTISE, a unicast address into each answer about prefixes, a refresh time into the
-- answer to an INFORMATION-REQUEST that asks for it; all others go where they are asked for
abbrev pub is_due : Occasion → List ℕ → ℕ → Bool
is_due occasion requested code =
    if code == 7 then is_advertise occasion
    else if code == 12 then is_of_lease occasion
    else if code == 32 then (if is_of_lease occasion then false else is_asked requested code)
    else is_asked requested code

abbrev pub chosen : Occasion → List ℕ → List Ready → List Ready
chosen occasion requested options = filter (λ o. is_due occasion requested o.code) options
