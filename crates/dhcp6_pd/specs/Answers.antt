-- What decode answers.
use Rattle.std.specs.Prelude.{◌≡◌, Result, Ok, Err}
use Rattle.dhcp6_pd.specs.declared.error.PdFault.{PdFault}
use Rattle.dhcp6_pd.specs.declared.error.PdError.{PdError}
use Rattle.dhcp6_pd.specs.declared.error.PdError.TheVariants.{Fault, TooLong, Memory}

-- the answer, seen by view, is the outcome of parsing, unless a growth was refused
abbrev pub Gives : {X Y : Type 0} → (X → Y) → Result X PdError → Result Y PdFault → Type 0
Gives view (Ok x) parsed = parsed ≡ Ok (view x)
Gives view (Err (Fault fault)) parsed = parsed ≡ Err fault
Gives view (Err TooLong) parsed = ⊥
Gives view (Err Memory) parsed = Unit {0}
