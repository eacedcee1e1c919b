-- How many octets the text of a notice has.
use Rattle.std.proofs.Common.{◌≡◌, ℕ, suc, ◌+◌, ◌*◌, ◌<◌, ◌≤◌, ◌^◌, List, [], ◌∷◌, ◌++◌, length, arith, refl, ◌∙◌, ap}
use Rattle.std.specs.List.{flat_map, AllByRecursion}
use Rattle.std.specs.Fmt.{decimal}
use Rattle.std.proofs.lemmas.Fmt.{length-decimal-le}
use Rattle.std.proofs.lemmas.List.{length-append}
use Rattle.std.proofs.lemmas.List.Concat.{flat_map-cons}
use Rattle.text_fields.specs.Cuts.{joined, behind}
use Rattle.text_fields.proofs.CutLaws.{joined-behind}
use Rattle.prefix_range.specs.Prefix.{Prefix, IsPrefix}
use Rattle.prefix_range.specs.Text.{groups_of, prefix_text, address_text}
use Rattle.link_notices.specs.declared.notice.UnitPool.{UnitPool}
use Rattle.link_notices.specs.declared.notice.PairSettings.{PairSettings}
use Rattle.link_notices.specs.declared.notice.Notice.{Notice}
use Rattle.link_notices.specs.declared.notice.Notice.TheVariants.{Program, Settings, Clock, ClockReply}
use Rattle.link_notices.specs.Items.{IsNoticeText}
use Rattle.link_notices.specs.Spelling.{pool_words, settings_words, notice_name, notice_values, notice_text}
use Rattle.link_notices.specs.Spelling.{IsPool, IsPairSettings, IsNotice}

-- the octets of words and of a space in front of each
unfoldable octets_in : List (List ℕ) → ℕ
octets_in [] = 0
octets_in (word ∷ words) = suc (length word) + octets_in words

in_both : (a b : List (List ℕ)) → octets_in (a ++ b) ≡ octets_in a + octets_in b
unfolding octets_in
in_both [] b = omega arith
in_both (word ∷ a) b = omega (arith, in_both a b)

length-behind : (words : List (List ℕ)) → length (behind 32 words) ≡ octets_in words
unfolding octets_in
length-behind [] = omega arith
length-behind (word ∷ words) =
    ap length (flat_map-cons (λ (cut : List ℕ). 32 ∷ cut) word words)
    ∙ omega (arith, length-append (32 ∷ word) (behind 32 words), length-behind words)

-- a name, and words behind it
length-text : (name : List ℕ) (words : List (List ℕ)) → length (joined 32 (name ∷ words)) ≡ length name + octets_in words
length-text name words =
    ap length (joined-behind 32 name words)
    ∙ omega (arith, length-append name (behind 32 words), length-behind words)

-- ---- words

number_short : (n : ℕ) → n < 2 ^ 64 → length (decimal n) ≤ 20
number_short n lt = length-decimal-le 20 n (omega arith) (omega arith) lt

reading_short : (n : ℕ) → n ≤ 2 ^ 48 → length (decimal n) ≤ 20
reading_short n le = number_short n (omega arith)

length-address : (address : ℕ) → length (address_text address) ≡ 39
unfolding address_text groups_of
length-address address = refl

prefix_short : (p : Prefix) → IsPrefix p → length (prefix_text p) ≤ 43
prefix_short p h =
    let short = h.short in
    omega (
      arith,
      length-append (address_text p.address) (47 ∷ decimal p.length),
      length-address p.address,
      length-decimal-le 3 p.length (omega arith) (omega arith) (omega arith),
    )

-- ---- pools

pool_short : (p : UnitPool) → IsPool p → octets_in (pool_words p) ≤ 48
unfolding octets_in
pool_short p h =
    let short = h.short in
    omega (
      arith,
      prefix_short p.prefix h.prefix,
      length-decimal-le 3 p.unit_length (omega arith) (omega arith) (omega arith),
    )

pools_short : (pools : List UnitPool) → AllByRecursion IsPool pools
    → octets_in (flat_map pool_words pools) ≤ 48 * length pools
unfolding octets_in
pools_short [] h = omega arith
pools_short (p ∷ pools) h =
    omega (
      arith,
      ap octets_in (flat_map-cons pool_words p pools),
      in_both (pool_words p) (flat_map pool_words pools),
      pool_short p h.0,
      pools_short pools h.1,
    )

-- ---- notices

settings_short : (s : PairSettings) → IsPairSettings s → octets_in (settings_words s) ≤ 900
unfolding octets_in
settings_short s h =
    let skew = h.skew in
    let mclt = h.mclt in
    let life = h.life in
    let transit = h.transit in
    let few = h.few in
    omega (
      arith,
      number_short s.skew (omega arith),
      number_short s.mclt (omega arith),
      number_short s.life (omega arith),
      number_short s.transit (omega arith),
      pools_short s.pools h.each,
    )

values_short : (n : Notice) → IsNotice n → octets_in (notice_values n) ≤ 900
unfolding octets_in
values_short (Program name version) h =
    let a = h.0.few in
    let b = h.1.few in
    omega arith
values_short (Settings s) h = settings_short s h
values_short (Clock number asked) h = omega (arith, number_short number h.0, reading_short asked h.1)
values_short (ClockReply number asked answered) h =
    omega (arith, number_short number h.0, reading_short asked h.1, reading_short answered h.2)

name_short : (n : Notice) → length (notice_name n) ≤ 11
name_short (Program name version) = omega arith
name_short (Settings s) = omega arith
name_short (Clock number asked) = omega arith
name_short (ClockReply number asked answered) = omega arith

name_some : (n : Notice) → 1 ≤ length (notice_name n)
name_some (Program name version) = omega arith
name_some (Settings s) = omega arith
name_some (Clock number asked) = omega arith
name_some (ClockReply number asked answered) = omega arith

pub text_some : (n : Notice) → 1 ≤ length (notice_text n)
text_some n = omega (arith, length-text (notice_name n) (notice_values n), name_some n)

pub text_fits : (n : Notice) → IsNotice n → IsNoticeText (notice_text n)
text_fits n h = record {
  some = text_some n;
  few = omega (arith, length-text (notice_name n) (notice_values n), name_short n, values_short n h);
}

pub never_long : (n : Notice) → IsNotice n → 4096 < length (notice_text n) → ⊥
never_long n h long = let few = (text_fits n h).few in absurd (omega arith)
