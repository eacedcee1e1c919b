-- Parts of texts.
use Rattle.std.specs.Prelude.{ℕ, Bool, not, List, take, drop, ◌==◌}
use Rattle.std.specs.List.{prefix_len}
use Rattle.std.specs.Char.{is_ascii_digit, is_ascii_whitespace}
use Rattle.report_times.specs.declared.parts.OctetKind.{OctetKind}
use Rattle.report_times.specs.declared.parts.OctetKind.TheVariants.{Digit, Space, Word, NoColon}

abbrev pub is_of : OctetKind → ℕ → Bool
is_of Digit octet = is_ascii_digit octet
is_of Space octet = is_ascii_whitespace octet
is_of Word octet = not (is_ascii_whitespace octet)
is_of NoColon octet = not (octet == 58)

-- with how many octets of a kind a text begins
abbrev pub run_of : OctetKind → List ℕ → ℕ
run_of kind text = prefix_len (is_of kind) text

-- these octets
abbrev pub front_run : OctetKind → List ℕ → List ℕ
front_run kind text = take (run_of kind text) text

-- what stands behind them
abbrev pub behind_run : OctetKind → List ℕ → List ℕ
behind_run kind text = drop (run_of kind text) text
