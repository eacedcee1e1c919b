-- What the lines of a certificate say, by their words.
use Rattle.std.specs.Prelude.{ℕ, List, [], ◌∷◌, ◌++◌, length, Option, Some, None, option_map, nat_le, ◌==◌}
use Rattle.std.specs.Prelude.{if◌then◌else◌, codes}
use Rattle.std.specs.Str.{bytes_eq}
use Rattle.text_fields.specs.Cuts.{split}
use Rattle.text_fields.specs.Parsing.{◌>>=◌, alone, first_word}
use Rattle.line_words.specs.Words.{number_within, reading_at, duid_at, prefix_at}
use Rattle.prefix_range.specs.Prefix.{Prefix}
use Rattle.binding_rules.specs.declared.role.Role.{Role}
use Rattle.binding_rules.specs.declared.role.Role.TheVariants.{Primary, Secondary}
use Rattle.causal_order.specs.declared.reference.Ref.{Ref}
use Rattle.causal_order.specs.declared.order.Precedes.{Precedes}
use Rattle.causal_order.specs.declared.order.Precedes.TheVariants.{Chain, Clock}
use Rattle.causal_order.specs.declared.certificate.Certificate.{Certificate}
use Rattle.causal_order.specs.declared.certificate.Piece.{Piece}
use Rattle.causal_order.specs.declared.certificate.Foreign.{Foreign}
use Rattle.causal_order.specs.declared.certificate.Reason.{Reason}
use Rattle.causal_order.specs.declared.certificate.Reason.TheVariants.{Early, Late, Released}
use Rattle.causal_order.specs.declared.certificate.Clear.{Clear}
use Rattle.causal_order.specs.declared.certificate.ClearReason.{ClearReason}
use Rattle.causal_order.specs.declared.certificate.ClearReason.TheVariants.{Before, After}
use Rattle.certificate.specs.declared.fields.TheConstants.{MAX_LINE_NUMBER, MAX_CHAIN_LEN}
use Rattle.certificate.specs.declared.stops.TheConstants.{LINK}

-- ---- words

-- the word itself, where it is this one
unfoldable pub keyword : List ℕ → List ℕ → Option (List ℕ)
keyword text word = if bytes_eq word text then Some text else None

-- the first word as this keyword, and the words behind it
abbrev pub keyword_at : List ℕ → List (List ℕ) → Option (List ℕ × List (List ℕ))
keyword_at text words = first_word (keyword text) words

-- the side with this letter, A or B
unfoldable pub side_of : ℕ → Option Role
side_of letter = if letter == 65 then Some Primary else if letter == 66 then Some Secondary else None

-- the reference that a word spells: a side's letter and a number from 1
unfoldable pub ref_of : List ℕ → Option Ref
ref_of [] = None
ref_of (letter ∷ digits) = do
  side ← side_of letter
  number ← number_within MAX_LINE_NUMBER digits
  if nat_le 1 number then Some (record { side = side; number = number }) else None

abbrev pub ref_at : List (List ℕ) → Option (Ref × List (List ℕ))
ref_at words = first_word ref_of words

-- the references that words spell
unfoldable pub refs_of : List (List ℕ) → Option (List Ref)
refs_of [] = Some []
refs_of (word ∷ words) = do
  r ← ref_of word
  option_map (λ refs. r ∷ refs) (refs_of words)

-- the references that so many words spell, where they are no more than a chain may have
unfoldable pub chain_in : List (List ℕ) → Option (List Ref)
chain_in words = if nat_le (length words) MAX_CHAIN_LEN then refs_of words else None

-- the chain that a word spells: references with a > between each two
abbrev pub chain_of : List ℕ → Option (List Ref)
chain_of word = chain_in (split LINK word)

abbrev pub chain_at : List (List ℕ) → Option (List Ref × List (List ℕ))
chain_at words = first_word chain_of words

-- ---- lines

-- the client, the prefix and the interval, by all words of their lines
unfoldable pub holder_in : List (List ℕ) → Option (List ℕ)
holder_in words = do
  k ← keyword_at (codes "holder") words
  holder ← duid_at k.1
  alone holder.0 holder.1

unfoldable pub prefix_in : List (List ℕ) → Option Prefix
prefix_in words = do
  k ← keyword_at (codes "prefix") words
  prefix ← prefix_at k.1
  alone prefix.0 prefix.1

unfoldable pub interval_in : List (List ℕ) → Option (ℕ × ℕ)
interval_in words = do
  k ← keyword_at (codes "interval") words
  from ← reading_at k.1
  to ← reading_at from.1
  alone (from.0, to.0) to.1

-- a piece, by the words behind its keyword
unfoldable pub piece_in : List (List ℕ) → Option Piece
piece_in words = do
  grant ← ref_at words
  from ← reading_at grant.1
  to ← reading_at from.1
  j ← keyword_at (codes "latest") to.1
  latest ← chain_at j.1
  k ← keyword_at (codes "earliest") latest.1
  earliest ← chain_at k.1
  alone (record {
    grant = grant.0;
    from = from.0;
    to = to.0;
    latest = latest.0;
    earliest = earliest.0;
    clear = [];
  }) earliest.1

-- two chains, from the first line and to the second
unfoldable pub clock_at : List (List ℕ) → Option (Precedes × List (List ℕ))
clock_at words = do
  latest ← chain_at words
  earliest ← chain_at latest.1
  Some (Clock latest.0 earliest.0, earliest.1)

-- why one line stands before another, by its keyword and the words behind it
unfoldable pub order_by : List ℕ → List (List ℕ) → Option (Precedes × List (List ℕ))
order_by word words =
    if bytes_eq word (codes "chain") then option_map (λ x. (Chain x.0, x.1)) (chain_at words)
    else if bytes_eq word (codes "clock") then clock_at words
    else None

abbrev pub order_at : List (List ℕ) → Option (Precedes × List (List ℕ))
order_at [] = None
order_at (word ∷ words) = order_by word words

-- why a release does not cut a piece short
unfoldable pub why_by : List ℕ → List (List ℕ) → Option (ClearReason × List (List ℕ))
why_by word words =
    if bytes_eq word (codes "before") then option_map (λ x. (Before x.0, x.1)) (order_at words)
    else if bytes_eq word (codes "after") then option_map (λ x. (After x.0, x.1)) (chain_at words)
    else None

abbrev pub why_at : List (List ℕ) → Option (ClearReason × List (List ℕ))
why_at [] = None
why_at (word ∷ words) = why_by word words

-- a release that does not cut a piece short, by the words behind its keyword
unfoldable pub clear_in : List (List ℕ) → Option Clear
clear_in words = do
  release ← ref_at words
  why ← why_at release.1
  alone (record { release = release.0; why = why.0 }) why.1

-- a release of another client's grant
unfoldable pub released_at : List (List ℕ) → Option (Reason × List (List ℕ))
released_at words = do
  release ← ref_at words
  order ← order_at release.1
  k ← keyword_at (codes "latest") order.1
  latest ← chain_at k.1
  Some (Released release.0 order.0 latest.0, latest.1)

-- a reason, by its keyword and the words behind it
unfoldable pub reason_by : List ℕ → List (List ℕ) → Option (Reason × List (List ℕ))
reason_by word words =
    if bytes_eq word (codes "early") then option_map (λ x. (Early x.0, x.1)) (chain_at words)
    else if bytes_eq word (codes "late") then option_map (λ x. (Late x.0, x.1)) (chain_at words)
    else if bytes_eq word (codes "released") then released_at words
    else None

abbrev pub reason_at : List (List ℕ) → Option (Reason × List (List ℕ))
reason_at [] = None
reason_at (word ∷ words) = reason_by word words

-- another client's grant, by the words behind its keyword
unfoldable pub foreign_in : List (List ℕ) → Option Foreign
foreign_in words = do
  grant ← ref_at words
  reason ← reason_at grant.1
  alone (record { grant = grant.0; reason = reason.0 }) reason.1

-- ---- what a line adds

-- the certificate with one more piece, before all other clients' grants
unfoldable pub with_piece : Certificate → List (List ℕ) → Option Certificate
with_piece c words =
    if length c.foreign == 0 then option_map (λ p. record c { pieces = c.pieces ++ p ∷ [] }) (piece_in words) else None

-- pieces with one more release that does not cut the last of them short
unfoldable pub with_cleared : List Piece → Clear → Option (List Piece)
with_cleared [] clear = None
with_cleared (p ∷ []) clear = Some (record p { clear = p.clear ++ clear ∷ [] } ∷ [])
with_cleared (p ∷ q ∷ ps) clear = option_map (λ more. p ∷ more) (with_cleared (q ∷ ps) clear)

-- the certificate with such a release, before all other clients' grants
unfoldable pub with_clear : Certificate → List (List ℕ) → Option Certificate
with_clear c words =
    if length c.foreign == 0
    then (clear_in words >>= λ clear. option_map (λ ps. record c { pieces = ps }) (with_cleared c.pieces clear))
    else None

-- the certificate with one more of other clients' grants
unfoldable pub with_foreign : Certificate → List (List ℕ) → Option Certificate
with_foreign c words = option_map (λ f. record c { foreign = c.foreign ++ f ∷ [] }) (foreign_in words)

-- the certificate with what a line adds to it, by the line's first word and the words behind it
unfoldable pub with_words : Certificate → List ℕ → List (List ℕ) → Option Certificate
with_words c word words =
    if bytes_eq word (codes "piece") then with_piece c words
    else if bytes_eq word (codes "clear") then with_clear c words
    else if bytes_eq word (codes "foreign") then with_foreign c words
    else None

-- the certificate with what the words of a line add to it
abbrev pub with_line : Certificate → List (List ℕ) → Option Certificate
with_line c [] = None
with_line c (word ∷ words) = with_words c word words
