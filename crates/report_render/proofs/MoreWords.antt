-- Moments, and one word more.
use Rattle.std.proofs.Common.{◌≡◌, ℕ, ◌+◌, ◌<◌, ◌≤◌, ◌^◌, List, [], ◌∷◌, ◌++◌, length, take, get_or, refl, append_assoc, append-nil, sym, ap, ◌∙◌, codes, inl, inr, Option, Some, None, Bor}
use Rattle.std.proofs.lemmas.List.{take_more}
use Rattle.std.specs.Fmt.{decimal}
use Rattle.zone_times.specs.declared.zone.ZoneFile.{ZoneFile}
use Rattle.zone_times.specs.Local.{AddsLocal}
use Rattle.time_text.specs.Time.{IsTimeText}
use Rattle.report_document.specs.declared.word.ReportWord.{ReportWord}
use Rattle.report_render.specs.Spelling.{IsWordText, AreWordTexts, AddsTimed, AddsLocalPart, AddsZoned, AddsMoment, AddsWord, AddsWords}

texts_more : (clock : Option (Bor ZoneFile)) (words : List ReportWord) (text : List ℕ) (w : ReportWord) (more : List ℕ)
    → AreWordTexts clock words text → IsWordText clock w more → AreWordTexts clock (words ++ w ∷ []) (text ++ more)
texts_more clock [] text w more e h = (more, [], ap (λ t. t ++ more) e ∙ sym (append-nil more), h, refl)
texts_more clock (v ∷ words) text w more (front, rest, e, h, others) k = (
  front,
  rest ++ more,
  ap (λ t. t ++ more) e ∙ append_assoc front rest more,
  h,
  texts_more clock words rest w more others k,
)

words_more : (clock : Option (Bor ZoneFile)) (words : List ReportWord) (w : ReportWord) (a b c : List ℕ) → AddsWords clock words a b → AddsWord clock w b c
    → AddsWords clock (words ++ w ∷ []) a c
words_more clock words w a b c h k = record {
  text = h.text ++ k.text;
  texts = texts_more clock words h.text w k.text h.texts k.text_is;
  added = k.added ∙ (ap (λ t. t ++ k.text) h.added ∙ append_assoc a h.text k.text);
}

pub words_step : (clock : Option (Bor ZoneFile)) (words : List ReportWord) (i : ℕ) (d : ReportWord) (a b c : List ℕ) → i < length words
    → AddsWords clock (take i words) a b → AddsWord clock (get_or words i d) b c → AddsWords clock (take (i + 1) words) a c
words_step clock words i d a b c h k l =
    rw (take_more words i d h) (words_more clock (take i words) (get_or words i d) a b c k l)

pub no_words : (clock : Option (Bor ZoneFile)) (a : List ℕ) → AddsWords clock [] a a
no_words clock a = record { text = []; texts = refl; added = sym (append-nil a) }

pub timed : (m : ℕ) (old a b c new text : List ℕ) → a ≡ old ++ text → IsTimeText m text
    → b ≡ a ++ codes " [" → c ≡ b ++ decimal m → new ≡ c ++ codes "]" → AddsTimed m old new
timed m old a b c new text ea t eb ec en = record {
  text = text ++ (codes " [" ++ (decimal m ++ codes "]"));
  text_is = record { time = text; time_is = t; spelled = refl };
  added = en ∙ (ap (λ x. x ++ codes "]") (ec ∙ ap (λ x. x ++ decimal m) (eb ∙ ap (λ x. x ++ codes " [") ea)) ∙ simp append_assoc);
}

pub local_part : (clock : ZoneFile) (m : ℕ) (old a b new : List ℕ)
    → a ≡ old ++ codes " (" → AddsLocal clock.table m a b → new ≡ b ++ codes ")" → AddsLocalPart clock m old new
local_part clock m old a b new ea l en = record {
  text = codes " (" ++ (l.text ++ codes ")");
  text_is = record { local = l.text; local_is = l.text_is; spelled = refl };
  added = en ∙ (ap (λ x. x ++ codes ")") (l.added ∙ ap (λ x. x ++ l.text) ea) ∙ simp append_assoc);
}

pub zoned_by : (clock : Bor ZoneFile) (m : ℕ) (old new : List ℕ) → AddsLocalPart clock.now m old new
    → AddsZoned (Some clock) m old new
zoned_by clock m old new h = record { text = h.text; text_is = h.text_is; added = h.added }

pub no_local : (m : ℕ) (old : List ℕ) → AddsZoned None m old old
no_local m old = record { text = []; text_is = refl; added = sym (append-nil old) }

pub timed_zoned : (clock : Option (Bor ZoneFile)) (m : ℕ) (old mid new : List ℕ) → m ≤ 2 ^ 48
    → AddsTimed m old mid → AddsZoned clock m mid new → AddsMoment clock m old new
timed_zoned clock m old mid new small h k = record {
  text = h.text ++ k.text;
  text_is = inl (
    small,
    record { front = h.text; front_is = h.text_is; rest = k.text; rest_is = k.text_is; spelled = refl },
  );
  added = k.added ∙ (ap (λ t. t ++ k.text) h.added ∙ append_assoc old h.text k.text);
}

pub only_milliseconds : (clock : Option (Bor ZoneFile)) (m : ℕ) (old new : List ℕ) → 2 ^ 48 < m
    → new ≡ old ++ decimal m → AddsMoment clock m old new
only_milliseconds clock m old new large e = record { text = decimal m; text_is = inr (large, refl); added = e }
