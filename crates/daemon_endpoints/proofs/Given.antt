-- Frames that a connection is given, one behind the other.
use Rattle.std.specs.Prelude.{◌≡◌, ℕ, List, [], ◌∷◌, ◌++◌, ◌<◌, Option, Some, None, IfSome, Result, Ok, Err, length}
use Rattle.std.proofs.Common.{refl, ap, sym, ◌∙◌, subst, append_assoc, append-nil, inl, inr, take, drop, get_or, suc}
use Rattle.std.proofs.Math.Seq.{take-suc, take-length}
use Rattle.std.proofs.lemmas.List.{take-append-drop, map-append}
use Rattle.daemon_io.specs.ConnectionWrites.{Sent, WritesOctets, Stays, IsGiven, OnlyHears, IsUnused}
use Rattle.daemon_io.proofs.Heard.{hears_nothing}
use Rattle.daemon_io.specs.declared.connection.ConnectionLost.{ConnectionLost}
use Rattle.daemon_io.specs.declared.connection.ConnectionLost.TheVariants.{Broken, Stuck, Spent, Memory}
use Rattle.failover_message.specs.Frames.{frame_octets}
use Rattle.failover_message.specs.declared.frame.Frame.{Frame}
use Rattle.failover_session.specs.declared.outbox.OutboundFrame.{OutboundFrame}
use Rattle.link_notices.specs.Items.{notice_octets}
use Rattle.link_notices.specs.Spelling.{notice_text}
use Rattle.link_notices.specs.declared.notice.Notice.{Notice}
use Rattle.daemon_endpoints.specs.Saying.{AreGiven, none, more, noticed, kept, heard, frames_of, AreFirstGiven, Says}
use Rattle.daemon_endpoints.specs.Saying.{IsLastWord, last_word, SaysOver, StandsOn, IsSame, MayStand}

pub given_on : (a b c : Sent) (fs gs : List Frame) → AreGiven a fs b → AreGiven b gs c
    → AreGiven a (fs ++ gs) c
given_on a b _ fs _ h none = subst (λ xs. AreGiven a xs b) (sym (append-nil fs)) h
given_on a b _ fs _ h (more gs g old new k step) =
    subst (λ xs. AreGiven a xs new) (append_assoc fs gs (g ∷ []))
    (more (fs ++ gs) g old new (given_on a b old fs gs h k) step)
given_on a b _ fs _ h (noticed gs n old new k step) =
    noticed (fs ++ gs) n old new (given_on a b old fs gs h k) step
given_on a b _ fs _ h (kept gs old new k step) = kept (fs ++ gs) old new (given_on a b old fs gs h k) step
given_on a b _ fs _ h (heard gs old new k step) = heard (fs ++ gs) old new (given_on a b old fs gs h k) step

-- of frames, the one at a place
module _ (fs : List OutboundFrame) (i : ℕ) (h : OutboundFrame) (within : i < length fs) (its : h ≡ get_or fs i h)
    (first old new : Sent) (before : AreGiven first (frames_of (take i fs)) old) where
  pub one_given : WritesOctets (frame_octets h.frame) old new → AreGiven first (frames_of (take (suc i) fs)) new
  one_given step =
      subst (λ xs. AreGiven first (frames_of xs) new) (ap (λ g. take i fs ++ g ∷ []) its ∙ sym (take-suc fs i h within))
      (subst (λ ys. AreGiven first ys new) (sym (map-append (λ (x : OutboundFrame). x.frame) (take i fs) (h ∷ [])))
      (more (frames_of (take i fs)) h.frame old new before step))

  up_to : (n : ℕ) (over : Type 0) → over → AreGiven first (frames_of (take n fs)) new
      → AreFirstGiven (frames_of fs) first new over
  up_to n over is_over given =
      record {
        front = frames_of (take n fs);
        rest = frames_of (drop n fs);
        all = ap frames_of (sym (take-append-drop n fs)) ∙ map-append (λ (x : OutboundFrame). x.frame) (take n fs) (drop n fs);
        given = given;
        lost = inl is_over;
      }

  pub one_lost : (T : Type 0) (e : ConnectionLost) (over : Type 0) → over → IsGiven {T = T} (frame_octets h.frame) old new (Err e)
      → AreFirstGiven (frames_of fs) first new over
  one_lost T Broken over is_over step = up_to (suc i) over is_over (one_given step)
  one_lost T Stuck over is_over step = up_to (suc i) over is_over (one_given step)
  one_lost T Spent over is_over step = up_to i over is_over (kept _ old new before step)
  one_lost T Memory over is_over step = up_to i over is_over (kept _ old new before step)

pub all_given : (fs : List OutboundFrame) (i : ℕ) (first old new : Sent) (over : Type 0) → i ≡ length fs
    → AreGiven first (frames_of (take i fs)) old → Stays old new → AreFirstGiven (frames_of fs) first new over
all_given fs i first old new over end before stays =
    record {
      front = frames_of fs;
      rest = [];
      all = sym (append-nil (frames_of fs));
      given = kept (frames_of fs) old new
          (subst (λ xs. AreGiven first (frames_of xs) old) (ap (λ (n : ℕ). take n fs) end ∙ take-length fs) before)
          stays;
      lost = inr refl;
    }

-- a last word, and a flush behind it
pub last_word_given : {T : Type 0} (a b c : Sent) (result : Result T ConnectionLost)
    → IsGiven (frame_octets last_word) a b result → Stays b c
    → (words : List Frame) × IsLastWord words × AreGiven a words c
last_word_given a b c (Ok x) step stays = (last_word ∷ [], inr refl, kept _ b c (more [] last_word a b none step) stays)
last_word_given a b c (Err Broken) step stays =
    (last_word ∷ [], inr refl, kept _ b c (more [] last_word a b none step) stays)
last_word_given a b c (Err Stuck) step stays =
    (last_word ∷ [], inr refl, kept _ b c (more [] last_word a b none step) stays)
last_word_given a b c (Err Spent) step stays = ([], inl refl, kept _ b c (kept _ a b none step) stays)
last_word_given a b c (Err Memory) step stays = ([], inl refl, kept _ b c (kept _ a b none step) stays)

-- a notice, with a stream that is over or not
pub notice_lost : (T : Type 0) (first old new : Sent) (n : Notice) (e : ConnectionLost) → AreGiven first [] old
    → IsGiven {T = T} (notice_octets (notice_text n)) old new (Err e) → AreGiven first [] new
notice_lost T first old new n Broken before step = noticed [] n old new before step
notice_lost T first old new n Stuck before step = noticed [] n old new before step
notice_lost T first old new n Spent before step = kept [] old new before step
notice_lost T first old new n Memory before step = kept [] old new before step

-- what is said after notices
pub says_behind : (frames : List Frame) (a b c : Sent) → AreGiven a [] b → Says frames b c → Says frames a c
says_behind frames a b c before h =
    record {
      front = h.front;
      rest = h.rest;
      words = h.words;
      all = h.all;
      last = h.last;
      given = given_on a b c [] (h.front ++ h.words) before h.given;
    }

pub says_further : (frames : List Frame) (a b c : Sent) → Says frames a b → AreGiven b [] c → Says frames a c
says_further frames a b c h given =
    record {
      front = h.front;
      rest = h.rest;
      words = h.words;
      all = h.all;
      last = h.last;
      given = subst (λ xs. AreGiven a xs c) (append-nil (h.front ++ h.words))
          (given_on a b c (h.front ++ h.words) [] h.given given);
    }

module _ (frames : List Frame) (a b : Sent) (over : Type 0) (h : AreFirstGiven frames a b over) where
  pub says_with : (c : Sent) (words : List Frame) → IsLastWord words → AreGiven b words c → Says frames a c
  says_with c words is_last given =
      record {
        front = h.front;
        rest = h.rest;
        words = words;
        all = h.all;
        last = is_last;
        given = given_on a b c h.front words h.given given;
      }

  pub says_alone : Says frames a b
  says_alone = says_with b [] (inl refl) none

-- ---- the connection that stands, if one does

pub said_to_none : (frames : List Frame) (before after : Option Sent) → before ≡ None → after ≡ None
    → SaysOver frames before after
said_to_none frames before after is_none same = subst (λ b. SaysOver frames b after) (sym is_none) same

pub said_to : (frames : List Frame) (before after : Option Sent) (old last : Sent) → before ≡ Some old
    → Says frames old last → IfSome after (λ (new : Sent). new ≡ last) → SaysOver frames before after
said_to frames before after old last some says stands =
    subst (λ b. SaysOver frames b after) (sym some) (last, says, stands)

-- with no frame but perhaps the last word
pub only_words : (a b : Sent) (words : List Frame) → IsLastWord words → AreGiven a words b → Says [] a b
only_words a b words is_last given =
    record { front = []; rest = []; words = words; all = refl; last = is_last; given = given }

-- notices alone
pub noticed_to : (before after : Option Sent) (old last : Sent) → before ≡ Some old → AreGiven old [] last
    → IfSome after (λ (new : Sent). new ≡ last) → SaysOver [] before after
noticed_to before after old last some given stands =
    said_to [] before after old last some (only_words old last [] (inl refl) given) stands

pub stands_none : (before after : Option Sent) → before ≡ None → after ≡ None → StandsOn before after
stands_none before after is_none same = subst (λ b. StandsOn b after) (sym is_none) same

pub stands_some : (before after : Option Sent) (old new : Sent) → before ≡ Some old → after ≡ Some new
    → AreGiven old [] new → StandsOn before after
stands_some before after old new some same given = subst (λ b. StandsOn b after) (sym some) (new, same, given)

-- a flush, and what is read behind it
pub only_heard : (a b c : Sent) → Stays a b → OnlyHears b c → AreGiven a [] c
only_heard a b c stays hears = heard [] b c (kept [] a b none stays) hears

pub none_stands : (before after : Option Sent) → after ≡ None → MayStand before after
none_stands before after same = subst (λ (x : Option Sent). MayStand before x) (sym same) tt

pub enters : (before after : Option Sent) (new : Sent) → after ≡ Some new → IsUnused new.passage
    → MayStand before after
enters before after new same unused = subst (λ (x : Option Sent). MayStand before x) (sym same) (inr unused)

pub hears_on : (before after : Option Sent) (old new : Sent) → before ≡ Some old → after ≡ Some new
    → OnlyHears old new → MayStand before after
hears_on before after old new some same hears =
    subst (λ (x : Option Sent). MayStand before x) (sym same)
    (inl (subst (λ (x : Option Sent). IsSame x new) (sym some) hears))

-- what stands goes on standing where nothing is said or heard
pub may_stand : (before : Option Sent) → MayStand before before
may_stand None = tt
may_stand (Some old) = inl (hears_nothing old)

pub said_nothing : (before : Option Sent) → SaysOver [] before before
said_nothing None = refl
said_nothing (Some old) = (old, only_words old old [] (inl refl) none, refl)

pub said_on : (frames : List Frame) (a b c : Option Sent) → SaysOver frames a b → StandsOn b c → SaysOver frames a c
said_on frames None b c says stands =
    subst (λ x. SaysOver frames None x) (sym (after_none b says c stands)) refl
  where
    after_none : (b : Option Sent) → b ≡ None → (c : Option Sent) → StandsOn b c → c ≡ None
    after_none b same c stands = subst (λ x. StandsOn x c) same stands
said_on frames (Some old) None c says stands = (says.0, says.1, subst (λ x. IfSome x (λ (new : Sent). new ≡ says.0)) (sym stands) tt)
said_on frames (Some old) (Some mid) c says stands = (
  stands.0,
  says_further frames old mid stands.0 (subst (λ x. Says frames old x) (sym says.2) says.1) stands.2,
  subst (λ x. IfSome x (λ (new : Sent). new ≡ stands.0)) (sym stands.1) refl,
)
