-- A loop over the options of a row.
use Rattle.std.proofs.Common.{◌≡◌, ℕ, zero, suc, ◌<◌, Option, Some, None, Result, Ok, Err, sym, ap, subst, ◌∙◌, arith}
use Rattle.text_fields.specs.Parsing.{◌>>!◌, FindsOr}
use Rattle.dhcp6_pd.specs.declared.error.PdFault.{PdFault}
use Rattle.dhcp6_pd.specs.declared.error.PdError.{PdError}
use Rattle.dhcp6_pd.specs.declared.error.PdError.TheVariants.{Fault, TooLong, Memory}
use Rattle.dhcp6_pd.specs.declared.options.RawOption.{RawOption}
use Rattle.dhcp6_pd.specs.Options.{DhcpOption}
use Rattle.dhcp6_pd.specs.Rows.{Row, Done, Broken, Next, folded}
use Rattle.dhcp6_pd.specs.Parsing.{plain, Steps}
use Rattle.dhcp6_pd.specs.Answers.{Gives}

-- what is known so far and the options that are left make all
pub record IsFolded {S : Type 0} (step : S → DhcpOption → Result S PdFault) (s : S) (row : Row)
    (total : Result S PdFault) : Type 0 where
  pub so_far : folded step s row ≡ total

pub goes_on : {S : Type 0} (step : S → DhcpOption → Result S PdFault) (s more : S) (row left : Row) (o : DhcpOption)
    (total : Result S PdFault) → IsFolded step s row total
    → row ≡ Next o left → step s o ≡ Ok more → IsFolded step more left total
unfolding folded
goes_on step s more row left o total h e found =
    record { so_far = sym (ap (folded step s) e ∙ ap (λ (r : _). r >>! λ m. folded step m left) found) ∙ h.so_far }

pub fails : {S : Type 0} (step : S → DhcpOption → Result S PdFault) (s : S) (row left : Row) (o : DhcpOption)
    (total : Result S PdFault) (fault : PdFault) → IsFolded step s row total
    → row ≡ Next o left → step s o ≡ Err fault → total ≡ Err fault
unfolding folded
fails step s row left o total fault h e found = sym h.so_far
    ∙ (ap (folded step s) e ∙ ap (λ (r : _). r >>! λ m. folded step m left) found)

pub breaks : {S : Type 0} (step : S → DhcpOption → Result S PdFault) (s : S) (row : Row) (total : Result S PdFault)
    (fault : PdFault) → IsFolded step s row total → row ≡ Broken fault → total ≡ Err fault
unfolding folded
breaks step s row total fault h e = sym h.so_far ∙ ap (folded step s) e

pub ends : {S : Type 0} (step : S → DhcpOption → Result S PdFault) (s : S) (row : Row) (total : Result S PdFault)
    → IsFolded step s row total → row ≡ Done → total ≡ Ok s
unfolding folded
ends step s row total h e = sym h.so_far ∙ ap (folded step s) e

-- how many options a row has
abbrev pub row_length : Row → ℕ
row_length Done = zero
row_length (Broken fault) = zero
row_length (Next o row) = suc (row_length row)

pub shorter : (row left : Row) (o : DhcpOption) → row ≡ Next o left → row_length left < row_length row
shorter row left o e = omega (arith, ap row_length e)

-- ---- what was taken from a row

pub took : (r : Result (Option RawOption) PdFault) (o : RawOption) (left row : Row) → Steps r left row
    → r ≡ Ok (Some o) → row ≡ Next (plain o) left
took r o left row h e = subst (λ (x : Result (Option RawOption) PdFault). Steps x left row) e h

pub broke : (r : Result (Option RawOption) PdFault) (fault : PdFault) (left row : Row) → Steps r left row
    → r ≡ Err fault → row ≡ Broken fault
broke r fault left row h e = subst (λ (x : Result (Option RawOption) PdFault). Steps x left row) e h

pub ended : (r : Result (Option RawOption) PdFault) (left row : Row) → Steps r left row → r ≡ Ok None → row ≡ Done
ended r left row h e = subst (λ (x : Result (Option RawOption) PdFault). Steps x left row) e h

-- what a step found
pub kept : {S : Type 0} (new : S) (r : Result (Unit {0}) PdFault) (x : Unit {0}) (parsed : Result S PdFault)
    → FindsOr (λ _. new) r parsed → r ≡ Ok x → parsed ≡ Ok new
kept {S = S} new r x parsed h e = subst (λ (y : Result (Unit {0}) PdFault). FindsOr {X = Unit {0}} {Y =
    S} (λ _. new) y parsed) e h

pub refused : {S : Type 0} (new : S) (r : Result (Unit {0}) PdFault) (fault : PdFault) (parsed : Result S PdFault)
    → FindsOr (λ _. new) r parsed → r ≡ Err fault → parsed ≡ Err fault
refused {S = S} new r fault parsed h e =
    subst (λ (y : Result (Unit {0}) PdFault). FindsOr {X = Unit {0}} {Y = S} (λ _. new) y parsed) e h

-- the same where a growth may be refused
pub given : {S : Type 0} (new : S) (r : Result (Unit {0}) PdError) (x : Unit {0}) (parsed : Result S PdFault)
    → Gives (λ _. new) r parsed → r ≡ Ok x → parsed ≡ Ok new
given {S = S} new r x parsed h e = subst (λ (y : Result (Unit {0}) PdError). Gives {X = Unit {0}} {Y =
    S} (λ _. new) y parsed) e h

-- an error of a step is the error of all
pub fails_with : {S X : Type 0} (view : X → S) (step : S → DhcpOption
    → Result S PdFault) (s new : S) (row left : Row) (o : DhcpOption) (total : Result S PdFault) (e : PdError)
    → IsFolded step s row total
    → row ≡ Next o left → Gives {X = Unit {0}} {Y = S} (λ _. new) (Err e) (step s o)
    → Gives {X = X} {Y = S} view (Err e) total
fails_with view step s new row left o total (Fault fault) h e found = fails step s row left o total fault h e found
fails_with view step s new row left o total TooLong h e found = found
fails_with view step s new row left o total Memory h e found = tt
