-- The one text of a certificate: lines, each of words with one space between each two and a line feed behind the last.
use Rattle.std.specs.Prelude.{ℕ, ◌^◌, ◌≤◌, List, [], ◌∷◌, ◌++◌, length, map, codes}
use Rattle.std.specs.Fmt.{decimal}
use Rattle.std.specs.List.{flat_map, AllByRecursion}
use Rattle.text_fields.specs.Cuts.{joined, with_stops}
use Rattle.text_fields.specs.Octets.{hex}
use Rattle.client_id.specs.Duid.{IsDuid}
use Rattle.prefix_range.specs.Prefix.{Prefix, IsPrefix}
use Rattle.prefix_range.specs.Text.{prefix_text}
use Rattle.binding_rules.specs.declared.role.Role.{Role}
use Rattle.binding_rules.specs.declared.role.Role.TheVariants.{Primary, Secondary}
use Rattle.causal_order.specs.declared.reference.Ref.{Ref}
use Rattle.certificate.specs.declared.fields.TheConstants.{MAX_LINE_NUMBER, MAX_CHAIN_LEN}
use Rattle.certificate.specs.declared.text_lines.TheConstants.{MAX_LINES}
use Rattle.causal_order.specs.declared.order.Precedes.{Precedes}
use Rattle.causal_order.specs.declared.order.Precedes.TheVariants.{Chain, Clock}
use Rattle.causal_order.specs.declared.certificate.Certificate.{Certificate}
use Rattle.causal_order.specs.declared.certificate.Piece.{Piece}
use Rattle.causal_order.specs.declared.certificate.Clear.{Clear}
use Rattle.causal_order.specs.declared.certificate.ClearReason.{ClearReason}
use Rattle.causal_order.specs.declared.certificate.ClearReason.TheVariants.{Before, After}
use Rattle.causal_order.specs.declared.certificate.Foreign.{Foreign}
use Rattle.causal_order.specs.declared.certificate.Reason.{Reason}
use Rattle.causal_order.specs.declared.certificate.Reason.TheVariants.{Early, Late, Released}
use Rattle.line_words.specs.declared.words.TheConstants.{SPACE}
use Rattle.certificate.specs.declared.stops.TheConstants.{LINE_FEED, LINK}

-- ---- words

-- the letter of a side, A or B
abbrev pub letter_of : Role → ℕ
letter_of Primary = 65
letter_of Secondary = 66

-- a line of a journal: the letter of its side and its number, as A12
abbrev pub ref_text : Ref → List ℕ
ref_text r = letter_of r.side ∷ decimal r.number

-- references with a > between each two
abbrev pub chain_text : List Ref → List ℕ
chain_text chain = joined LINK (map ref_text chain)

-- ---- lines

-- the first line, which names the format and its version
abbrev pub head_text : List ℕ
head_text = codes "pd-certificate 1"

-- the client that is said to have held the prefix: its DUID (RFC 8415, section 11)
abbrev pub holder_words : List ℕ → List (List ℕ)
holder_words holder = codes "holder" ∷ hex holder ∷ []

-- the whole prefix that it held (RFC 4291, section 2.3)
abbrev pub prefix_words : Prefix → List (List ℕ)
prefix_words prefix = codes "prefix" ∷ prefix_text prefix ∷ []

-- from one moment up to another, in milliseconds
abbrev pub interval_words : ℕ → ℕ → List (List ℕ)
interval_words from to = codes "interval" ∷ decimal from ∷ decimal to ∷ []

-- a grant that carries a part of the interval, with a chain from it and a chain to it
abbrev pub piece_words : Piece → List (List ℕ)
piece_words p =
    codes "piece" ∷ ref_text p.grant ∷ decimal p.from ∷ decimal p.to
    ∷ codes "latest" ∷ chain_text p.latest ∷ codes "earliest" ∷ chain_text p.earliest ∷ []

-- why one line stands before another
abbrev pub order_words : Precedes → List (List ℕ)
order_words (Chain chain) = codes "chain" ∷ chain_text chain ∷ []
order_words (Clock latest earliest) = codes "clock" ∷ chain_text latest ∷ chain_text earliest ∷ []

-- why a release does not cut a piece short: it stands before the grant, or after the piece's end by a chain to it
abbrev pub why_words : ClearReason → List (List ℕ)
why_words (Before order) = codes "before" ∷ order_words order
why_words (After chain) = codes "after" ∷ chain_text chain ∷ []

-- a release that does not cut a piece short
abbrev pub clear_words : Clear → List (List ℕ)
clear_words c = codes "clear" ∷ ref_text c.release ∷ why_words c.why

-- a chain from a line
abbrev pub latest_words : List Ref → List (List ℕ)
latest_words chain = codes "latest" ∷ chain_text chain ∷ []

-- why another client's grant does not touch the interval: it ended before, it began after, or it was given back before
abbrev pub reason_words : Reason → List (List ℕ)
reason_words (Early chain) = codes "early" ∷ chain_text chain ∷ []
reason_words (Late chain) = codes "late" ∷ chain_text chain ∷ []
reason_words (Released release order latest) =
    codes "released" ∷ ref_text release ∷ (order_words order ++ latest_words latest)

-- another client's grant
abbrev pub foreign_words : Foreign → List (List ℕ)
foreign_words f = codes "foreign" ∷ ref_text f.grant ∷ reason_words f.reason

-- ---- the whole text

-- words with a space between each two
abbrev pub line_text : List (List ℕ) → List ℕ
line_text words = joined SPACE words

-- the lines that stand in each certificate
abbrev pub opening_lines : Certificate → List (List ℕ)
opening_lines c =
    head_text ∷ line_text (holder_words c.holder) ∷ line_text (prefix_words c.prefix)
    ∷ line_text (interval_words c.from c.to) ∷ []

-- a piece, and the releases that do not cut it short
abbrev pub piece_lines : Piece → List (List ℕ)
piece_lines p = line_text (piece_words p) ∷ map (λ c. line_text (clear_words c)) p.clear

-- the lines before the last: pieces first, then other clients' grants
abbrev pub lines_of : Certificate → List (List ℕ)
lines_of c = opening_lines c ++ (flat_map piece_lines c.pieces ++ map (λ f. line_text (foreign_words f)) c.foreign)

-- the last line
abbrev pub end_text : List ℕ
end_text = codes "end"

-- all lines, without their line feeds
abbrev pub certificate_lines : Certificate → List (List ℕ)
certificate_lines c = lines_of c ++ end_text ∷ []

-- and the whole text
abbrev pub certificate_text : Certificate → List ℕ
certificate_text c = with_stops LINE_FEED (certificate_lines c)

-- ---- what is spelled

-- a number that a journal's line may have
pub record IsReference (r : Ref) : Type 0 where
  pub least : 1 ≤ r.number
  pub most : r.number ≤ MAX_LINE_NUMBER

-- a chain of 1 to 1,024 lines
pub record IsChain (chain : List Ref) : Type 0 where
  pub some : 1 ≤ length chain
  pub few : length chain ≤ MAX_CHAIN_LEN
  pub references : AllByRecursion IsReference chain

-- an order by such chains
abbrev pub IsOrder : Precedes → Type 0
IsOrder (Chain chain) = IsChain chain
IsOrder (Clock latest earliest) = IsChain latest × IsChain earliest

-- a release that is cleared by such chains
abbrev pub IsWhy : ClearReason → Type 0
IsWhy (Before order) = IsOrder order
IsWhy (After chain) = IsChain chain

pub record IsClear (c : Clear) : Type 0 where
  pub release : IsReference c.release
  pub why : IsWhy c.why

-- a piece with moments that readings can be
pub record IsPiece (p : Piece) : Type 0 where
  pub grant : IsReference p.grant
  pub from : p.from ≤ 2 ^ 48
  pub to : p.to ≤ 2 ^ 48
  pub latest : IsChain p.latest
  pub earliest : IsChain p.earliest
  pub clear : AllByRecursion IsClear p.clear

-- a reason with such chains
abbrev pub IsReason : Reason → Type 0
IsReason (Early chain) = IsChain chain
IsReason (Late chain) = IsChain chain
IsReason (Released release order latest) = IsReference release × IsOrder order × IsChain latest

-- another client's grant with such a reason
pub record IsForeign (f : Foreign) : Type 0 where
  pub grant : IsReference f.grant
  pub reason : IsReason f.reason

-- what a certificate's parts are, however many lines they make
pub record IsClaim (c : Certificate) : Type 0 where
  pub holder : IsDuid c.holder
  pub prefix : IsPrefix c.prefix
  pub from : c.from ≤ 2 ^ 48
  pub to : c.to ≤ 2 ^ 48
  pub pieces : AllByRecursion IsPiece c.pieces
  pub foreign : AllByRecursion IsForeign c.foreign

-- the certificates that have a text: those whose lines are not too many; no line of such parts is too long
pub record IsWritten (c : Certificate) : Type 0 where
  pub claim : IsClaim c
  pub lines : length (certificate_lines c) ≤ MAX_LINES
