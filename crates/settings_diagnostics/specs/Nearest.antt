-- Which known key a word is, or is nearest to.
use Rattle.std.specs.Prelude.{ℕ, Bool, ◌+◌, ◌≤◌, ◌==◌, List, not, All, Contains, bytes_eq}
use Rattle.std.specs.List.{list_any, count_by}
use Rattle.settings_diagnostics.specs.declared.key.Key.{Key}
use Rattle.settings_diagnostics.specs.Keys.{key_name}

-- a word is one of the known keys
abbrev pub is_known : List Key → List ℕ → Bool
is_known known word = list_any (λ key. bytes_eq (key_name key) word) known

-- an octet doesn't stand in a word
abbrev pub lacks : List ℕ → ℕ → Bool
lacks word octet = not (list_any (λ other. other == octet) word)

-- how many octets of a word don't stand in another
abbrev pub lacking : List ℕ → List ℕ → ℕ
lacking other word = count_by (lacks other) word

-- how far two words are from each other
abbrev pub apart : List ℕ → List ℕ → ℕ
apart word other = lacking other word + lacking word other

-- a known key than which none is nearer to the word
pub record IsNearest (known : List Key) (word : List ℕ) (key : Key) : Type 0 where
  pub stands : Contains known key
  pub least : All (λ k. apart word (key_name key) ≤ apart word (key_name k)) known
