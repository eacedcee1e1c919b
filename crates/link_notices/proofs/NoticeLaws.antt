-- What is read behind a name is spelled so, and what is spelled is read again.
use Rattle.std.proofs.Common.{◌≡◌, ℕ, ◌-◌, ◌<◌, ◌≤◌, ◌^◌, leb, List, [], ◌∷◌, length, Some, refl, sym}
use Rattle.std.proofs.Common.{ap, subst, ◌∙◌, arith}
use Rattle.std.specs.Prelude.{codes}
use Rattle.std.specs.List.{flat_map, AllByRecursion}
use Rattle.std.specs.Fmt.{decimal}
use Rattle.std.proofs.lemmas.Bool.{leb-true, le-leb}
use Rattle.std.proofs.lemmas.List.Concat.{flat_map-cons}
use Rattle.text_fields.specs.Cuts.{AllLack}
use Rattle.text_fields.proofs.Steps.{bind_some, map_some, both, chosen, some_is}
use Rattle.text_fields.proofs.NumberLaws.{decimal_lacks}
use Rattle.text_fields.proofs.WordLaws.{word_again}
use Rattle.prefix_range.specs.Text.{prefix_word, prefix_text}
use Rattle.prefix_range.proofs.TextLaws.{prefix_takes, prefix_again, prefix_lacks}
use Rattle.link_notices.specs.declared.notice.UnitPool.{UnitPool}
use Rattle.link_notices.specs.declared.notice.PairSettings.{PairSettings}
use Rattle.link_notices.specs.declared.notice.Notice.{Notice}
use Rattle.link_notices.specs.declared.notice.Notice.TheVariants.{Program, Settings, Clock, ClockReply}
use Rattle.link_notices.specs.declared.reading.Spans.{Spans}
use Rattle.link_notices.specs.Words.{number_within, IsProgramWord}
use Rattle.link_notices.specs.Spelling.{pool_words, settings_words, notice_name, notice_values, IsPool, IsPairSettings}
use Rattle.link_notices.specs.Spelling.{IsNotice}
use Rattle.link_notices.specs.Parsing.{program_word, names_at, program_of, clock_of, reply_of, pool_of, pools_of}
use Rattle.link_notices.specs.Parsing.{are_few, spans_at, settings_made, settings_of}
use Rattle.link_notices.proofs.WordTests.{word_fits, word_tests, word_lacks}
use Rattle.link_notices.proofs.WordLaws.{within_takes, within_again, number_at_again, word_then, number_then, next}
use Rattle.link_notices.proofs.WordLaws.{alone_takes, name_lacks}

-- the words behind a name spell this notice
abbrev pub Said : List ℕ → List (List ℕ) → Notice → Type 0
Said name words n = (words ≡ notice_values n) × IsNotice n × (notice_name n ≡ name)

-- ---- programs

program_word_takes : (word w : List ℕ) → program_word word ≡ Some w → (word ≡ w) × IsProgramWord w
unfolding program_word
program_word_takes word w e =
    let c = chosen _ (Some word) w e in
    let same : word ≡ w = some_is _ _ c.1 in
    (same, subst IsProgramWord same (word_fits word c.0))

program_word_again : (w : List ℕ) → IsProgramWord w → program_word w ≡ Some w
unfolding program_word
program_word_again w h = rw (word_tests w h) refl

abbrev AreNames : List (List ℕ) → (List ℕ × List ℕ) × List (List ℕ) → Type 0
AreNames words x = (words ≡ x.0.0 ∷ x.0.1 ∷ x.1) × IsProgramWord x.0.0 × IsProgramWord x.0.1

names_take : (words : List (List ℕ)) (x : (List ℕ × List ℕ) × List (List ℕ)) → names_at words ≡ Some x
    → AreNames words x
unfolding names_at
names_take words x e =
    let name = word_then program_word words _ x e in
    let version = word_then program_word name.0.1 _ x name.4 in
    let a = program_word_takes name.1 name.0.0 name.3 in
    let b = program_word_takes version.1 version.0.0 version.3 in
    subst (AreNames words) (some_is _ _ version.4) (
      next (name.2 ∙ ap (λ (w : List ℕ). w ∷ name.0.1) a.0) (version.2 ∙ ap (λ (w : List ℕ). w ∷ version.0.1) b.0),
      a.1,
      b.1,
    )

pub program_takes : (words : List (List ℕ)) (n : Notice) → program_of words ≡ Some n → Said (codes "program") words n
unfolding program_of
program_takes words n e =
    let names = bind_some (names_at words) _ n e in
    let t = names_take words names.0 names.1 in
    let a = alone_takes (Program names.0.0.0 names.0.0.1) names.0.1 n names.2 in
    subst (Said (codes "program") words) a.1 (
      t.0 ∙ ap (λ (ws : List (List ℕ)). names.0.0.0 ∷ names.0.0.1 ∷ ws) a.0,
      (t.1, t.2),
      refl,
    )

pub program_again : (name version : List ℕ) → IsProgramWord name → IsProgramWord version
    → program_of (name ∷ version ∷ []) ≡ Some (Program name version)
unfolding program_of names_at
program_again name version a b = rw (
  word_again program_word name (version ∷ []) name (program_word_again name a),
  word_again program_word version [] version (program_word_again version b),
) refl

-- ---- clocks

pub clock_takes : (words : List (List ℕ)) (n : Notice) → clock_of words ≡ Some n → Said (codes "clock") words n
unfolding clock_of
clock_takes words n e =
    let number = number_then (2 ^ 64 - 1) words _ n e in
    let asked = number_then (2 ^ 48) number.0.1 _ n number.4 in
    let a = alone_takes (Clock number.0.0 asked.0.0) asked.0.1 n asked.4 in
    subst (Said (codes "clock") words) a.1 (next number.1 (next asked.1 a.0), (number.3, asked.2), refl)

pub clock_again : (number asked : ℕ) → number < 2 ^ 64 → asked ≤ 2 ^ 48
    → clock_of (decimal number ∷ decimal asked ∷ []) ≡ Some (Clock number asked)
unfolding clock_of
clock_again number asked a b = rw (
  number_at_again (2 ^ 64 - 1) number (decimal asked ∷ []) (omega arith) a,
  number_at_again (2 ^ 48) asked [] b (omega arith),
) refl

pub reply_takes : (words : List (List ℕ)) (n : Notice) → reply_of words ≡ Some n → Said (codes "clock-reply") words n
unfolding reply_of
reply_takes words n e =
    let number = number_then (2 ^ 64 - 1) words _ n e in
    let asked = number_then (2 ^ 48) number.0.1 _ n number.4 in
    let answered = number_then (2 ^ 48) asked.0.1 _ n asked.4 in
    let a = alone_takes (ClockReply number.0.0 asked.0.0 answered.0.0) answered.0.1 n answered.4 in
    subst (Said (codes "clock-reply") words) a.1 (
      next number.1 (next asked.1 (next answered.1 a.0)),
      (number.3, asked.2, answered.2),
      refl,
    )

pub reply_again : (number asked answered : ℕ) → number < 2 ^ 64 → asked ≤ 2 ^ 48 → answered ≤ 2 ^ 48
    → reply_of (decimal number ∷ decimal asked ∷ decimal answered ∷ []) ≡ Some (ClockReply number asked answered)
unfolding reply_of
reply_again number asked answered a b c = rw (
  number_at_again (2 ^ 64 - 1) number (decimal asked ∷ decimal answered ∷ []) (omega arith) a,
  number_at_again (2 ^ 48) asked (decimal answered ∷ []) b (omega arith),
  number_at_again (2 ^ 48) answered [] c (omega arith),
) refl

-- ---- pools

abbrev IsPoolOf : (prefix unit : List ℕ) → UnitPool → Type 0
IsPoolOf prefix unit p = (prefix ≡ prefix_text p.prefix) × (unit ≡ decimal p.unit_length) × IsPool p

pool_takes : (prefix unit : List ℕ) (p : UnitPool) → pool_of prefix unit ≡ Some p → IsPoolOf prefix unit p
unfolding pool_of
pool_takes prefix unit p e =
    let a = bind_some (prefix_word prefix) _ p e in
    let b = bind_some (number_within 128 unit) _ p a.2 in
    let c = chosen (leb a.0.length b.0) (Some (record { prefix = a.0; unit_length = b.0 })) p b.2 in
    let q = prefix_takes prefix a.0 a.1 in
    let n = within_takes 128 unit b.0 b.1 in
    subst (IsPoolOf prefix unit) (some_is _ _ c.1) (
      q.0,
      n.0,
      record { prefix = q.1; longer = leb-true a.0.length b.0 c.0; short = n.1 },
    )

pool_again : (p : UnitPool) → IsPool p → pool_of (prefix_text p.prefix) (decimal p.unit_length) ≡ Some p
unfolding pool_of
pool_again p h =
    let short = h.short in
    rw (
      prefix_again p.prefix h.prefix,
      within_again 128 p.unit_length h.short (omega arith),
      le-leb p.prefix.length p.unit_length h.longer,
    ) refl

abbrev ArePoolsOf : List (List ℕ) → List UnitPool → Type 0
ArePoolsOf words pools = (words ≡ flat_map pool_words pools) × AllByRecursion IsPool pools

two_words : (prefix unit : List ℕ) (words : List (List ℕ)) (p : UnitPool) (pools : List UnitPool)
    → prefix ≡ prefix_text p.prefix → unit ≡ decimal p.unit_length → words ≡ flat_map pool_words pools
    → prefix ∷ unit ∷ words ≡ flat_map pool_words (p ∷ pools)
two_words prefix unit words p pools a b c =
    ap (λ (w : List ℕ). w ∷ unit ∷ words) a ∙ ap (λ (w : List ℕ). prefix_text p.prefix ∷ w ∷ words) b
    ∙ ap (λ (ws : List (List ℕ)). prefix_text p.prefix ∷ decimal p.unit_length ∷ ws) c
    ∙ sym (flat_map-cons pool_words p pools)

pools_take : (words : List (List ℕ)) (pools : List UnitPool) → pools_of words ≡ Some pools → ArePoolsOf words pools
unfolding pools_of
pools_take [] pools e = subst (ArePoolsOf []) (some_is [] pools e) (refl, tt)
pools_take (prefix ∷ []) pools e = absurd cc
pools_take (prefix ∷ unit ∷ words) pools e =
    let p = bind_some (pool_of prefix unit) _ pools e in
    let m = map_some (pools_of words) (λ (ps : List UnitPool). p.0 ∷ ps) pools p.2 in
    let t = pool_takes prefix unit p.0 p.1 in
    let ts = pools_take words m.0 m.1 in
    subst (ArePoolsOf (prefix ∷ unit ∷ words)) m.2 (
      two_words prefix unit words p.0 m.0 t.0 t.1 ts.0,
      (t.2, ts.1),
    )

pools_again : (pools : List UnitPool) → AllByRecursion IsPool pools
    → pools_of (flat_map pool_words pools) ≡ Some pools
unfolding pools_of
pools_again [] h = refl
pools_again (p ∷ pools) h =
    ap pools_of (flat_map-cons pool_words p pools) ∙ rw (pool_again p h.0, pools_again pools h.1) refl

-- ---- settings

record AreSpans (words : List (List ℕ)) (x : Spans × List (List ℕ)) : Type 0 where
  spelled : words ≡ decimal x.0.skew ∷ decimal x.0.mclt ∷ decimal x.0.life ∷ decimal x.0.transit ∷ x.1
  skew : x.0.skew ≤ 86400000
  mclt : x.0.mclt < 2 ^ 32
  life : x.0.life < 2 ^ 32
  transit : x.0.transit ≤ 3600000

spans_take : (words : List (List ℕ)) (x : Spans × List (List ℕ)) → spans_at words ≡ Some x → AreSpans words x
unfolding spans_at
spans_take words x e =
    let skew = number_then 86400000 words _ x e in
    let mclt = number_then (2 ^ 32 - 1) skew.0.1 _ x skew.4 in
    let life = number_then (2 ^ 32 - 1) mclt.0.1 _ x mclt.4 in
    let transit = number_then 3600000 life.0.1 _ x life.4 in
    let lead = mclt.2 in
    let desired = life.2 in
    subst (AreSpans words) (some_is _ _ transit.4) (record {
      spelled = next skew.1 (next mclt.1 (next life.1 transit.1));
      skew = skew.2;
      mclt = omega arith;
      life = omega arith;
      transit = transit.2;
    })

pub settings_take : (words : List (List ℕ)) (n : Notice) → settings_of words ≡ Some n → Said (codes "settings") words n
unfolding settings_of
settings_take words n e =
    let s = bind_some (spans_at words) _ n e in
    let p = bind_some (pools_of s.0.1) _ n s.2 in
    let c = chosen (are_few p.0) (Some (Settings (settings_made s.0.0 p.0))) n p.2 in
    let f = both (leb 1 (length p.0)) (leb (length p.0) 16) c.0 in
    let t = spans_take words s.0 s.1 in
    let ts = pools_take s.0.1 p.0 p.1 in
    let x = s.0.0 in
    subst (Said (codes "settings") words) (some_is _ _ c.1) (
      t.spelled ∙ ap (λ (ws : List (List ℕ)). decimal x.skew ∷ decimal x.mclt ∷ decimal x.life ∷ decimal x.transit ∷ ws)
          ts.0,
      record {
        skew = t.skew;
        mclt = t.mclt;
        life = t.life;
        transit = t.transit;
        each = ts.1;
        some = leb-true 1 (length p.0) f.0;
        few = leb-true (length p.0) 16 f.1;
      },
      refl,
    )

pub settings_again : (s : PairSettings) → IsPairSettings s → settings_of (settings_words s) ≡ Some (Settings s)
unfolding settings_of spans_at
settings_again s h =
    let pools : List (List ℕ) = flat_map pool_words s.pools in
    let skew = h.skew in
    let mclt = h.mclt in
    let life = h.life in
    let transit = h.transit in
    rw (
      number_at_again 86400000 s.skew (decimal s.mclt ∷ decimal s.life ∷ decimal s.transit ∷ pools) h.skew
          (omega arith),
      number_at_again (2 ^ 32 - 1) s.mclt (decimal s.life ∷ decimal s.transit ∷ pools) (omega arith) (omega arith),
      number_at_again (2 ^ 32 - 1) s.life (decimal s.transit ∷ pools) (omega arith) (omega arith),
      number_at_again 3600000 s.transit pools h.transit (omega arith),
      pools_again s.pools h.each,
      le-leb 1 (length s.pools) h.some,
      le-leb (length s.pools) 16 h.few,
    ) refl

-- ---- no word has a space

pools_lack : (pools : List UnitPool) → AllByRecursion IsPool pools → AllLack 32 (flat_map pool_words pools)
pools_lack [] h = tt
pools_lack (p ∷ pools) h =
    let short = h.0.short in
    subst (AllLack 32) (sym (flat_map-cons pool_words p pools)) (
      prefix_lacks 32 p.prefix (omega arith) h.0.prefix,
      (decimal_lacks 32 p.unit_length (omega arith) (omega arith), pools_lack pools h.1),
    )

pub notice_lacks : (n : Notice) → IsNotice n → AllLack 32 (notice_name n ∷ notice_values n)
notice_lacks (Program name version) h = (
  name_lacks (codes "program") refl,
  (word_lacks name h.0.visible, (word_lacks version h.1.visible, tt)),
)
notice_lacks (Settings s) h =
    let skew = h.skew in
    let mclt = h.mclt in
    let life = h.life in
    let transit = h.transit in (
      name_lacks (codes "settings") refl,
      (
        decimal_lacks 32 s.skew (omega arith) (omega arith),
        (
          decimal_lacks 32 s.mclt (omega arith) (omega arith),
          (
            decimal_lacks 32 s.life (omega arith) (omega arith),
            (decimal_lacks 32 s.transit (omega arith) (omega arith), pools_lack s.pools h.each),
          ),
        ),
      ),
    )
notice_lacks (Clock number asked) h = (
  name_lacks (codes "clock") refl,
  (decimal_lacks 32 number (omega arith) h.0, (decimal_lacks 32 asked (omega arith) (omega (arith, h.1)), tt)),
)
notice_lacks (ClockReply number asked answered) h = (
  name_lacks (codes "clock-reply") refl,
  (
    decimal_lacks 32 number (omega arith) h.0,
    (
      decimal_lacks 32 asked (omega arith) (omega (arith, h.1)),
      (decimal_lacks 32 answered (omega arith) (omega (arith, h.2)), tt),
    ),
  ),
)
