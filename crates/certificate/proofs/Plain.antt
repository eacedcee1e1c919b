-- Words without spaces and line feeds: lines of such words are lines, and come back word by word.
use Rattle.std.proofs.Common.{◌≡◌, ◌≢◌, ℕ, ◌<◌, ◌≤◌, ◌^◌, Bool, true, false, eqb, List, [], ◌∷◌, ◌++◌, length, refl}
use Rattle.std.proofs.Common.{arith, lit<}
use Rattle.std.specs.Prelude.{codes, not}
use Rattle.std.specs.Fmt.{decimal}
use Rattle.std.specs.List.{AllByRecursion, list_all}
use Rattle.std.proofs.lemmas.Bool.{eq-eqb}
use Rattle.text_fields.specs.Octets.{hex}
use Rattle.text_fields.specs.Cuts.{joined, split, Lacks, AllLack}
use Rattle.text_fields.proofs.Steps.{both}
use Rattle.text_fields.proofs.CutLaws.{split-joined}
use Rattle.text_fields.proofs.NumberLaws.{decimal_lacks}
use Rattle.text_fields.proofs.OctetLaws.{hex_lacks}
use Rattle.client_id.specs.Duid.{IsDuid}
use Rattle.prefix_range.specs.Prefix.{Prefix, IsPrefix}
use Rattle.prefix_range.specs.Text.{prefix_text}
use Rattle.prefix_range.proofs.TextLaws.{prefix_lacks}
use Rattle.causal_order.specs.declared.reference.Ref.{Ref}
use Rattle.causal_order.specs.declared.order.Precedes.{Precedes}
use Rattle.causal_order.specs.declared.order.Precedes.TheVariants.{Chain, Clock}
use Rattle.causal_order.specs.declared.certificate.Clear.{Clear}
use Rattle.causal_order.specs.declared.certificate.ClearReason.{ClearReason}
use Rattle.causal_order.specs.declared.certificate.ClearReason.TheVariants.{Before, After}
use Rattle.causal_order.specs.declared.certificate.Piece.{Piece}
use Rattle.causal_order.specs.declared.certificate.Foreign.{Foreign}
use Rattle.causal_order.specs.declared.certificate.Reason.{Reason}
use Rattle.causal_order.specs.declared.certificate.Reason.TheVariants.{Early, Late, Released}
use Rattle.certificate.specs.Spelling.{ref_text, chain_text, order_words, why_words, clear_words, latest_words}
use Rattle.certificate.specs.Spelling.{reason_words, holder_words, prefix_words, interval_words, piece_words}
use Rattle.certificate.specs.Spelling.{foreign_words, line_text, IsReference, IsChain, IsOrder, IsWhy, IsClear}
use Rattle.certificate.specs.Spelling.{IsReason, IsPiece, IsForeign}
use Rattle.certificate.proofs.RefPlain.{ref_lacks, chain_lacks}
use Rattle.certificate.proofs.Lengths.{holder_short, prefix_short, interval_short, piece_short, clear_short}
use Rattle.certificate.proofs.Lengths.{foreign_short}

pub record IsPlain (word : List ℕ) : Type 0 where
  pub spaces : Lacks 32 word
  pub feeds : Lacks 10 word

abbrev pub ArePlain : List (List ℕ) → Type 0
ArePlain words = AllByRecursion IsPlain words

pub all_append : {X : Type 0} (P : X → Type 0) (xs ys : List X) → AllByRecursion P xs → AllByRecursion P ys
    → AllByRecursion P (xs ++ ys)
all_append P [] ys h k = k
all_append P (x ∷ xs) ys h k = (h.0, all_append P xs ys h.1 k)

-- ---- lines

lacks_after : (word text : List ℕ) → Lacks 10 word → Lacks 10 text → Lacks 10 (word ++ 32 ∷ text)
lacks_after [] text w t = (λ e. absurd (omega arith), t)
lacks_after (b ∷ word) text w t = (w.0, lacks_after word text w.1 t)

joined_lacks : (words : List (List ℕ)) → ArePlain words → Lacks 10 (joined 32 words)
joined_lacks [] h = tt
joined_lacks (word ∷ []) h = h.0.feeds
joined_lacks (word ∷ next ∷ words) h = lacks_after word (joined 32 (next ∷ words)) h.0.feeds
    (joined_lacks (next ∷ words) h.1)

words_lack : (words : List (List ℕ)) → ArePlain words → AllLack 32 words
words_lack [] h = tt
words_lack (word ∷ words) h = (h.0.spaces, words_lack words h.1)

-- a line of plain words that is not too long
pub record IsPlainLine (words : List (List ℕ)) : Type 0 where
  pub plain : ArePlain words
  pub some : 0 < length words
  pub short : length (line_text words) ≤ 32767

pub line_lacks : (words : List (List ℕ)) → IsPlainLine words → Lacks 10 (line_text words)
line_lacks words h = joined_lacks words h.plain

pub line_words : (words : List (List ℕ)) → IsPlainLine words → split 32 (line_text words) ≡ words
line_words [] h = absurd (omega (arith, h.some))
line_words (word ∷ words) h = split-joined 32 word words (words_lack (word ∷ words) h.plain)

-- ---- words

pub lacks_test : (stop : ℕ) (word : List ℕ) → list_all (λ b. not (eqb b stop)) word ≡ true → Lacks stop word
lacks_test stop [] e = tt
lacks_test stop (b ∷ word) e =
    let t = both (not (eqb b stop)) (list_all (λ b. not (eqb b stop)) word) e in
    (other (eqb b stop) refl t.0, lacks_test stop word t.1)
  where
    other : (v : Bool) → eqb b stop ≡ v → not v ≡ true → b ≢ stop
    other true p n same = absurd cc
    other false p n same = let q = eq-eqb b stop same in absurd cc

-- a keyword
pub keyword_plain : (word : List ℕ) → list_all (λ b. not (eqb b 32)) word ≡ true
    → list_all (λ b. not (eqb b 10)) word ≡ true → IsPlain word
keyword_plain word spaces feeds = record { spaces = lacks_test 32 word spaces; feeds = lacks_test 10 word feeds }

decimal_plain : (n : ℕ) → n ≤ 2 ^ 48 → IsPlain (decimal n)
decimal_plain n le =
    let fits : n < 2 ^ 64 = omega arith in
    record { spaces = decimal_lacks 32 n (lit< tt) fits; feeds = decimal_lacks 10 n (lit< tt) fits }

hex_plain : (d : List ℕ) → IsPlain (hex d)
hex_plain d = record { spaces = hex_lacks 32 d (lit< tt); feeds = hex_lacks 10 d (lit< tt) }

ref_plain : (r : Ref) → IsReference r → IsPlain (ref_text r)
ref_plain r h = record { spaces = ref_lacks 32 r (lit< tt) h; feeds = ref_lacks 10 r (lit< tt) h }

chain_plain : (chain : List Ref) → IsChain chain → IsPlain (chain_text chain)
chain_plain chain h = record {
  spaces = chain_lacks 32 chain (lit< tt) h.references;
  feeds =
      chain_lacks 10 chain (lit< tt) h.references;
}

prefix_plain : (p : Prefix) → IsPrefix p → IsPlain (prefix_text p)
prefix_plain p h = record { spaces = prefix_lacks 32 p (lit< tt) h; feeds = prefix_lacks 10 p (lit< tt) h }

order_plain : (o : Precedes) → IsOrder o → ArePlain (order_words o)
order_plain (Chain chain) h = (keyword_plain (codes "chain") refl refl, (chain_plain chain h, tt))
order_plain (Clock latest earliest) h =
    (keyword_plain (codes "clock") refl refl, (chain_plain latest h.0, (chain_plain earliest h.1, tt)))

why_plain : (w : ClearReason) → IsWhy w → ArePlain (why_words w)
why_plain (Before order) h = (keyword_plain (codes "before") refl refl, order_plain order h)
why_plain (After chain) h = (keyword_plain (codes "after") refl refl, (chain_plain chain h, tt))

latest_plain : (chain : List Ref) → IsChain chain → ArePlain (latest_words chain)
latest_plain chain h = (keyword_plain (codes "latest") refl refl, (chain_plain chain h, tt))

reason_plain : (r : Reason) → IsReason r → ArePlain (reason_words r)
reason_plain (Early chain) h = (keyword_plain (codes "early") refl refl, (chain_plain chain h, tt))
reason_plain (Late chain) h = (keyword_plain (codes "late") refl refl, (chain_plain chain h, tt))
reason_plain (Released release order latest) h = (
  keyword_plain (codes "released") refl refl,
  (
    ref_plain release h.0,
    all_append IsPlain (order_words order) (latest_words latest) (order_plain order h.1)
        (latest_plain latest h.2),
  ),
)

-- ---- each line

pub holder_plain : (d : List ℕ) → IsDuid d → IsPlainLine (holder_words d)
holder_plain d h = record {
  plain = (keyword_plain (codes "holder") refl refl, (hex_plain d, tt));
  some = omega arith;
  short = holder_short d h;
}

pub prefix_plain_line : (p : Prefix) → IsPrefix p → IsPlainLine (prefix_words p)
prefix_plain_line p h = record {
  plain = (keyword_plain (codes "prefix") refl refl, (prefix_plain p h, tt));
  some =
      omega arith;
  short = prefix_short p h;
}

pub interval_plain : (from to : ℕ) → from ≤ 2 ^ 48 → to ≤ 2 ^ 48 → IsPlainLine (interval_words from to)
interval_plain from to f t = record {
  plain =
      (keyword_plain (codes "interval") refl refl, (decimal_plain from f, (decimal_plain to t, tt)));
  some = omega arith;
  short = interval_short from to f t;
}

pub piece_plain : (p : Piece) → IsPiece p → IsPlainLine (piece_words p)
piece_plain p h = record {
  plain = (
    keyword_plain (codes "piece") refl refl,
    (
      ref_plain p.grant h.grant,
      (
        decimal_plain p.from h.from,
        (
          decimal_plain p.to h.to,
          (
            keyword_plain (codes "latest") refl refl,
            (
              chain_plain p.latest h.latest,
              (
                keyword_plain (codes "earliest") refl refl,
                (chain_plain p.earliest h.earliest, tt),
              ),
            ),
          ),
        ),
      ),
    ),
  );
  some = omega arith;
  short = piece_short p h;
}

pub clear_plain : (c : Clear) → IsClear c → IsPlainLine (clear_words c)
clear_plain c h =
    record {
      plain = (keyword_plain (codes "clear") refl refl, (ref_plain c.release h.release, why_plain c.why h.why));
      some = omega arith;
      short = clear_short c h;
    }

pub foreign_plain : (f : Foreign) → IsForeign f → IsPlainLine (foreign_words f)
foreign_plain f h =
    record {
      plain = (
        keyword_plain (codes "foreign") refl refl,
        (ref_plain f.grant h.grant, reason_plain f.reason h.reason),
      );
      some = omega arith;
      short = foreign_short f h;
    }
