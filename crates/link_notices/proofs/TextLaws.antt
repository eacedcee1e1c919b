-- What is read of a text: a notice, nothing, or a fault.
use Rattle.std.proofs.Common.{◌≡◌, ℕ, List, [], ◌∷◌, Option, Some, None, Result, Ok, Err}
use Rattle.std.proofs.Common.{refl, sym, ap, subst, ◌∙◌, inl, inr}
use Rattle.std.specs.Prelude.{codes, ◌⊎◌, IfOk, IfErr, IfSome}
use Rattle.text_fields.specs.Cuts.{joined, split}
use Rattle.text_fields.specs.Parsing.{Gives}
use Rattle.text_fields.proofs.CutLaws.{split-joined, joined-split}
use Rattle.link_notices.specs.declared.error.NoticeError.{NoticeError}
use Rattle.link_notices.specs.declared.error.NoticeError.TheVariants as errors
use Rattle.link_notices.specs.declared.notice.Notice.{Notice}
use Rattle.link_notices.specs.declared.notice.Notice.TheVariants.{Program, Settings, Clock, ClockReply}
use Rattle.link_notices.specs.Spelling.{notice_name, notice_values, notice_text, IsNotice}
use Rattle.link_notices.specs.Refusals.{IsUnknown, name_of, IsMisspelled, fault_of}
use Rattle.link_notices.specs.Parsing.{program_of, settings_of, clock_of, reply_of, known, notice_at, notice_of}
use Rattle.link_notices.proofs.WordLaws.{tried}
use Rattle.link_notices.proofs.NoticeLaws.{Said, program_takes, program_again, clock_takes, clock_again, reply_takes}
use Rattle.link_notices.proofs.NoticeLaws.{reply_again, settings_take, settings_again, notice_lacks}

abbrev Read : Type 0
Read = Result (Option Notice) NoticeError

-- ---- behind a known name

known_some : (fault : NoticeError) (o : Option Notice) (n : Notice) → known fault o ≡ Ok (Some n) → o ≡ Some n
known_some fault None n e = absurd cc
known_some fault (Some m) n e = cc

known_none : (fault : NoticeError) (o : Option Notice) → known fault o ≡ Ok None → ⊥
known_none fault None e = cc
known_none fault (Some m) e = cc

known_fault : (fault : NoticeError) (o : Option Notice) (e : NoticeError) → known fault o ≡ Err e → fault ≡ e
known_fault fault None e is = cc
known_fault fault (Some m) e is = absurd cc

known_refuses : (fault : NoticeError) (o : Option Notice) → ((n : Notice) → o ≡ Some n → ⊥) → known fault o ≡ Err fault
known_refuses fault None h = refl
known_refuses fault (Some n) h = absurd (h n refl)

-- ---- a notice

abbrev Say : List (List ℕ) → Notice → Type 0
Say words n = (words ≡ notice_name n ∷ notice_values n) × IsNotice n

named : (word : List ℕ) (words : List (List ℕ)) (name : List ℕ) (n : Notice) → word ≡ name → Said name words n
    → Say (word ∷ words) n
named word words name n is said = (
  ap (λ (w : List ℕ). w ∷ words) (is ∙ sym said.2) ∙ ap (λ (ws : List (List ℕ)). notice_name n ∷ ws) said.0,
  said.1,
)

at_takes : (words : List (List ℕ)) (n : Notice) → notice_at words ≡ Ok (Some n) → Say words n
unfolding notice_at
at_takes [] n e = absurd cc
at_takes (word ∷ words) n e =
    tried word (codes "program") (known errors.Program (program_of words)) _ (Ok (Some n)) (λ is k.
    named word words (codes "program") n is
    (program_takes words n (known_some errors.Program (program_of words) n k))) (
    tried word (codes "settings") (known errors.Settings (settings_of words)) _ (Ok (Some n)) (λ is k.
    named word words (codes "settings") n is
    (settings_take words n (known_some errors.Settings (settings_of words) n k)))
    (
    tried word (codes "clock") (known errors.Clock (clock_of words)) _ (Ok (Some n)) (λ is k.
    named word words (codes "clock") n is (clock_takes words n (known_some errors.Clock (clock_of words) n k))) (
    tried word (codes "clock-reply") (known errors.ClockReply (reply_of words)) (Ok None) (Ok (Some n)) (λ is k.
    named word words (codes "clock-reply") n is
    (reply_takes words n (known_some errors.ClockReply (reply_of words) n k))) (λ none.
    absurd cc)))) e

at_again : (n : Notice) → IsNotice n → notice_at (notice_name n ∷ notice_values n) ≡ Ok (Some n)
unfolding notice_at
at_again (Program name version) h = rw (program_again name version h.0 h.1) refl
at_again (Settings s) h = rw (settings_again s h) refl
at_again (Clock number asked) h = rw (clock_again number asked h.0 h.1) refl
at_again (ClockReply number asked answered) h = rw (reply_again number asked answered h.0 h.1 h.2) refl

pub notice_takes : (text : List ℕ) (n : Notice) → notice_of text ≡ Ok (Some n) → (text ≡ notice_text n) × IsNotice n
unfolding notice_of
notice_takes text n e =
    let s = at_takes (split 32 text) n e in
    (sym (joined-split 32 text) ∙ ap (joined 32) s.0, s.1)

pub notice_again : (n : Notice) → IsNotice n → notice_of (notice_text n) ≡ Ok (Some n)
unfolding notice_of
notice_again n h = ap notice_at (split-joined 32 (notice_name n) (notice_values n) (notice_lacks n h)) ∙ at_again n h

-- ---- a text that is passed over

pub none_unknown : (text : List ℕ) → notice_of text ≡ Ok None → IsUnknown text
unfolding notice_of notice_at
none_unknown text e = record {
  program = λ b. known_none errors.Program (program_of b.rest) (sym (ap notice_at b.words) ∙ e);
  settings = λ b. known_none errors.Settings (settings_of b.rest) (sym (ap notice_at b.words) ∙ e);
  clock = λ b. known_none errors.Clock (clock_of b.rest) (sym (ap notice_at b.words) ∙ e);
  reply = λ b. known_none errors.ClockReply (reply_of b.rest) (sym (ap notice_at b.words) ∙ e);
}

-- words that begin with this name
abbrev Begin : List ℕ → List (List ℕ) → Type 0
Begin name words = (rest : List (List ℕ)) × (words ≡ name ∷ rest)

unknown_at : (words : List (List ℕ)) → (Begin (codes "program") words → ⊥) → (Begin (codes "settings") words → ⊥)
    → (Begin (codes "clock") words → ⊥) → (Begin (codes "clock-reply") words → ⊥) → notice_at words ≡ Ok None
unfolding notice_at
unknown_at [] a b c d = refl
unknown_at (word ∷ words) a b c d =
    tried word (codes "program") (known errors.Program (program_of words)) _ (notice_at (word ∷ words)) (λ is k.
    absurd (a (words, ap (λ (w : List ℕ). w ∷ words) is))) (
    tried word (codes "settings") (known errors.Settings (settings_of words)) _ (notice_at (word ∷ words)) (λ is k.
    absurd (b (words, ap (λ (w : List ℕ). w ∷ words) is))) (
    tried word (codes "clock") (known errors.Clock (clock_of words)) _ (notice_at (word ∷ words)) (λ is k.
    absurd (c (words, ap (λ (w : List ℕ). w ∷ words) is))) (
    tried word (codes "clock-reply") (known errors.ClockReply (reply_of words)) (Ok None) (notice_at (word ∷ words))
    (λ is k.
    absurd (d (words, ap (λ (w : List ℕ). w ∷ words) is))) (λ none. sym none)))) refl

pub unknown_none : (text : List ℕ) → IsUnknown text → notice_of text ≡ Ok None
unfolding notice_of
unknown_none text h = unknown_at (split 32 text) (λ b. h.program (record { rest = b.0; words = b.1 }))
    (λ b. h.settings (record { rest = b.0; words = b.1 })) (λ b. h.clock (record { rest = b.0; words = b.1 }))
    (λ b. h.reply (record { rest = b.0; words = b.1 }))

-- ---- a text that is refused

abbrev Refuses : List (List ℕ) → NoticeError → Type 0
Refuses words e = (name : List ℕ) × (name_of e ≡ Some name) × Begin name words

refused_by : (word : List ℕ) (words : List (List ℕ)) (name : List ℕ) (fault : NoticeError) (o : Option Notice)
    (e : NoticeError) → name_of fault ≡ Some name → word ≡ name → known fault o ≡ Err e → Refuses (word ∷ words) e
refused_by word words name fault o e known_name is k = (
  name,
  ap name_of (sym (known_fault fault o e k)) ∙ known_name,
  (words, ap (λ (w : List ℕ). w ∷ words) is),
)

refused_at : (words : List (List ℕ)) (e : NoticeError) → notice_at words ≡ Err e → Refuses words e
unfolding notice_at
refused_at [] e is = absurd cc
refused_at (word ∷ words) e is =
    tried word (codes "program") (known errors.Program (program_of words)) _ (Err e)
    (refused_by word words (codes "program") errors.Program (program_of words) e refl) (
    tried word (codes "settings") (known errors.Settings (settings_of words)) _ (Err e)
    (refused_by word words (codes "settings") errors.Settings (settings_of words) e refl) (
    tried word (codes "clock") (known errors.Clock (clock_of words)) _ (Err e)
    (refused_by word words (codes "clock") errors.Clock (clock_of words) e refl) (
    tried word (codes "clock-reply") (known errors.ClockReply (reply_of words)) (Ok None) (Err e)
    (refused_by word words (codes "clock-reply") errors.ClockReply (reply_of words) e refl) (λ none.
    absurd cc)))) is

pub refused_misspelled : (text : List ℕ) (e : NoticeError) → notice_of text ≡ Err e → IsMisspelled text e
unfolding notice_of
refused_misspelled text e is =
    let r = refused_at (split 32 text) e is in
    record {
      name = r.0;
      named = r.1;
      begins = record { rest = r.2.0; words = r.2.1 };
      other = λ n h same. (let x = sym is ∙ (ap notice_of same ∙ notice_again n h) in absurd cc);
    }

some_name : (x y : List ℕ) → Some x ≡ Some y → x ≡ y
some_name x y e = cc

-- the words behind a known name spell no notice
misspelled_by : (text name : List ℕ) (e : NoticeError) (o : List (List ℕ) → Option Notice) → name_of e ≡ Some name
    → ((rest : List (List ℕ)) → notice_at (name ∷ rest) ≡ known e (o rest)) → IsMisspelled text e
    → notice_of text ≡ Err e
unfolding notice_of
misspelled_by text name e o known_name behind h =
    let same : name ≡ h.name = some_name name h.name (sym known_name ∙ h.named) in
    let words : split 32 text ≡ name ∷ h.begins.rest = h.begins.words
    ∙ ap (λ (w : List ℕ). w ∷ h.begins.rest) (sym same) in
    let is : notice_at (split 32 text) ≡ known e (o h.begins.rest) = ap notice_at words ∙ behind h.begins.rest in
    is ∙ known_refuses e (o h.begins.rest) (λ n some. (let t = notice_takes text n (is ∙ ap (known e) some) in
    h.other n t.1 t.0))

no_name : (e : NoticeError) (text : List ℕ) → name_of e ≡ None → IsMisspelled text e → ⊥
no_name e text none h = let x = sym none ∙ h.named in cc

pub misspelled_refused : (text : List ℕ) (e : NoticeError) → IsMisspelled text e → notice_of text ≡ Err e
unfolding notice_at
misspelled_refused text errors.Program h =
    misspelled_by text (codes "program") errors.Program program_of refl (λ rest. refl) h
misspelled_refused text errors.Settings h =
    misspelled_by text (codes "settings") errors.Settings settings_of refl (λ rest. refl) h
misspelled_refused text errors.Clock h = misspelled_by text (codes "clock") errors.Clock clock_of refl (λ rest. refl) h
misspelled_refused text errors.ClockReply h =
    misspelled_by text (codes "clock-reply") errors.ClockReply reply_of refl (λ rest. refl) h
misspelled_refused text errors.Length h = absurd (no_name errors.Length text refl h)
misspelled_refused text errors.Memory h = absurd (no_name errors.Memory text refl h)

-- ---- what the call returns

abbrev pub IsRead : Read → List ℕ → Type 0
IsRead r text = Gives fault_of (λ n. n) r (notice_of text)

pub read_found : (r : Read) (text : List ℕ) → IsRead r text
    → IfOk r (λ o. IfSome o (λ n. (text ≡ notice_text n) × IsNotice n))
read_found (Ok None) text h = tt
read_found (Ok (Some n)) text h = notice_takes text n h
read_found (Err e) text h = tt

pub read_passed : (r : Read) (text : List ℕ) → IsRead r text → IfOk r (λ o. o ≡ None → IsUnknown text)
read_passed (Ok None) text h = λ none. none_unknown text h
read_passed (Ok (Some n)) text h = λ none. absurd cc
read_passed (Err e) text h = tt

pub read_refused : (r : Read) (text : List ℕ) → IsRead r text
    → IfErr r (λ e. (e ≡ errors.Memory) ⊎ IsMisspelled text e)
read_refused (Ok o) text h = tt
read_refused (Err errors.Program) text h = inr (refused_misspelled text errors.Program h)
read_refused (Err errors.Settings) text h = inr (refused_misspelled text errors.Settings h)
read_refused (Err errors.Clock) text h = inr (refused_misspelled text errors.Clock h)
read_refused (Err errors.ClockReply) text h = inr (refused_misspelled text errors.ClockReply h)
read_refused (Err errors.Length) text h = inr (refused_misspelled text errors.Length h)
read_refused (Err errors.Memory) text h = inl refl

-- the text is read so
pub read_as : (r : Read) (text : List ℕ) (parsed : Read) → IsRead r text → notice_of text ≡ parsed
    → Gives fault_of (λ n. n) r parsed
read_as r text parsed h e = subst (λ (p : Read). Gives fault_of (λ n. n) r p) e h
