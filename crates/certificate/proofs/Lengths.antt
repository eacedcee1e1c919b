-- No line is too long: its chains have at most 1,024 references each, and it has at most three of them.
use Rattle.std.proofs.Common.{◌≡◌, ℕ, zero, suc, ◌+◌, ◌*◌, ◌/◌, ◌%◌, ◌≤◌, ◌^◌, List, [], ◌∷◌, ◌++◌, length, refl, arith}
use Rattle.std.proofs.Common.{lit<}
use Rattle.std.specs.Prelude.{map}
use Rattle.std.specs.Fmt.{decimal}
use Rattle.std.specs.List.{AllByRecursion}
use Rattle.std.proofs.lemmas.Fmt.{length-decimal-le}
use Rattle.std.proofs.lemmas.List.{length-append}
use Rattle.text_fields.specs.Cuts.{joined}
use Rattle.text_fields.proofs.OctetLaws.{length-hex}
use Rattle.client_id.specs.Duid.{IsDuid}
use Rattle.prefix_range.specs.Prefix.{Prefix, IsPrefix}
use Rattle.prefix_range.specs.Text.{groups_of, group_text, address_text, prefix_text}
use Rattle.causal_order.specs.declared.reference.Ref.{Ref}
use Rattle.causal_order.specs.declared.order.Precedes.{Precedes}
use Rattle.causal_order.specs.declared.order.Precedes.TheVariants.{Chain, Clock}
use Rattle.causal_order.specs.declared.certificate.Clear.{Clear}
use Rattle.causal_order.specs.declared.certificate.ClearReason.{ClearReason}
use Rattle.causal_order.specs.declared.certificate.ClearReason.TheVariants.{Before, After}
use Rattle.causal_order.specs.declared.certificate.Piece.{Piece}
use Rattle.causal_order.specs.declared.certificate.Foreign.{Foreign}
use Rattle.causal_order.specs.declared.certificate.Reason.{Reason}
use Rattle.causal_order.specs.declared.certificate.Reason.TheVariants.{Early, Late, Released}
use Rattle.certificate.specs.Spelling.{ref_text, chain_text, order_words, why_words, clear_words, latest_words}
use Rattle.certificate.specs.Spelling.{reason_words, holder_words, prefix_words, interval_words, piece_words}
use Rattle.certificate.specs.Spelling.{foreign_words, line_text, IsReference, IsChain, IsOrder, IsWhy, IsClear}
use Rattle.certificate.specs.Spelling.{IsReason, IsPiece, IsForeign}

-- ---- words

-- the octets of words, each with one that ends it
abbrev size : List (List ℕ) → ℕ
size [] = 0
size (word ∷ words) = length word + 1 + size words

size-append : (a b : List (List ℕ)) → size (a ++ b) ≡ size a + size b
size-append [] b = omega arith
size-append (word ∷ a) b = omega (arith, size-append a b)

joined_size : (stop : ℕ) (words : List (List ℕ)) → length (joined stop words) ≤ size words
joined_size stop [] = omega arith
joined_size stop (word ∷ []) = omega arith
joined_size stop (word ∷ next ∷ words) =
    omega (arith, joined_size stop (next ∷ words), length-append word (stop ∷ joined stop (next ∷ words)))

number_length : (n : ℕ) → n ≤ 2 ^ 48 → length (decimal n) ≤ 19
number_length n le = length-decimal-le 19 n (lit< tt) (omega arith) (omega arith)

ref_length : (r : Ref) → IsReference r → length (ref_text r) ≤ 8
ref_length r h = omega (arith, length-decimal-le 7 r.number (lit< tt) (omega (arith, h.most)) (omega (arith, h.most)))

refs_size : (refs : List Ref) → AllByRecursion IsReference refs → size (map ref_text refs) ≤ 9 * length refs
refs_size [] h = omega arith
refs_size (r ∷ refs) h = omega (arith, ref_length r h.0, refs_size refs h.1)

chain_length : (chain : List Ref) → IsChain chain → length (chain_text chain) ≤ 9216
chain_length chain h = omega (arith, joined_size 62 (map ref_text chain), refs_size chain h.references, h.few)

length-groups : (n address : ℕ) → length (groups_of n address) ≡ n
unfolding groups_of
length-groups zero address = refl
length-groups (suc n) address = omega (
  arith,
  length-append (groups_of n (address / 65536)) (address % 65536 ∷ []),
  length-groups n (address / 65536),
)

groups_short : (groups : List ℕ) → length (joined 58 (map group_text groups)) ≤ 5 * length groups
groups_short [] = omega arith
groups_short (g ∷ []) = omega arith
groups_short (g ∷ next ∷ groups) = omega (
  arith,
  length-append (group_text g) (58 ∷ joined 58 (map group_text (next ∷ groups))),
  groups_short (next ∷ groups),
)

address_short : (address : ℕ) → length (address_text address) ≤ 40
unfolding address_text
address_short address = omega (arith, groups_short (groups_of 8 address), length-groups 8 address)

prefix_length : (p : Prefix) → IsPrefix p → length (prefix_text p) ≤ 60
prefix_length p h = omega (
  arith,
  length-append (address_text p.address) (47 ∷ decimal p.length),
  address_short p.address,
  number_length p.length (omega (arith, h.short)),
)

order_size : (o : Precedes) → IsOrder o → size (order_words o) ≤ 18440
order_size (Chain chain) h = omega (arith, chain_length chain h)
order_size (Clock latest earliest) h = omega (arith, chain_length latest h.0, chain_length earliest h.1)

why_size : (w : ClearReason) → IsWhy w → size (why_words w) ≤ 18447
why_size (Before order) h = omega (arith, order_size order h)
why_size (After chain) h = omega (arith, chain_length chain h)

reason_size : (r : Reason) → IsReason r → size (reason_words r) ≤ 27700
reason_size (Early chain) h = omega (arith, chain_length chain h)
reason_size (Late chain) h = omega (arith, chain_length chain h)
reason_size (Released release order latest) h =
    omega (
      arith,
      ref_length release h.0,
      size-append (order_words order) (latest_words latest),
      order_size order h.1,
      chain_length latest h.2,
    )

-- ---- lines

line_length : (words : List (List ℕ)) → size words ≤ 32767 → length (line_text words) ≤ 32767
line_length words le = omega (arith, joined_size 32 words)

pub holder_short : (d : List ℕ) → IsDuid d → length (line_text (holder_words d)) ≤ 32767
holder_short d h = line_length (holder_words d) (omega (arith, length-hex d, h.most))

pub prefix_short : (p : Prefix) → IsPrefix p → length (line_text (prefix_words p)) ≤ 32767
prefix_short p h = line_length (prefix_words p) (omega (arith, prefix_length p h))

pub interval_short : (from to : ℕ) → from ≤ 2 ^ 48 → to ≤ 2 ^ 48 → length (line_text (interval_words from to)) ≤ 32767
interval_short from to f t = line_length (interval_words from to)
    (omega (arith, number_length from f, number_length to t))

pub piece_short : (p : Piece) → IsPiece p → length (line_text (piece_words p)) ≤ 32767
piece_short p h = line_length (piece_words p)
    (omega (
      arith,
      ref_length p.grant h.grant,
      number_length p.from h.from,
      number_length p.to h.to,
      chain_length p.latest h.latest,
      chain_length p.earliest h.earliest,
    ))

pub clear_short : (c : Clear) → IsClear c → length (line_text (clear_words c)) ≤ 32767
clear_short c h = line_length (clear_words c) (omega (arith, ref_length c.release h.release, why_size c.why h.why))

pub foreign_short : (f : Foreign) → IsForeign f → length (line_text (foreign_words f)) ≤ 32767
foreign_short f h = line_length (foreign_words f)
    (omega (arith, ref_length f.grant h.grant, reason_size f.reason h.reason))
