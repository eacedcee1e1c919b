-- What comes and is written, one call of a wire behind another.
use Rattle.std.specs.Prelude.{◌≡◌, ◌⊎◌, ℕ, List, [], ◌∷◌, ◌++◌, ◌<◌, Result, Err, refl}
use Rattle.std.proofs.Common.{ap, sym, ◌∙◌, subst, append_assoc, append-nil, inl, inr, length, take, drop, get_or, suc}
use Rattle.std.proofs.Math.Seq.{take-suc, take-length}
use Rattle.std.proofs.lemmas.List.{take-append-drop}
use Rattle.failover_message.specs.Frames.{frame_octets}
use Rattle.failover_session.specs.declared.outbox.OutboundFrame.{OutboundFrame}
use Rattle.failover_session.specs.OutboundFrames.{meanings_of}
use Rattle.node_threads.specs.declared.error.NodeError.{NodeError}
use Rattle.node_threads.specs.declared.error.NodeError.TheVariants.{Net, Read, Write, Serve, Memory}
use Rattle.node_threads.specs.Writing.{Carried, nothing, came, went, MayLose, HandsOut, SaysWords, HasHeard, MayHear}
use Rattle.node_threads.specs.Writing.{IsWritten}

module _ {Line : Type 0} (Brings Writes : Line → List ℕ → Line → Type 0) (Fails : Line → Line → Type 0) where
  pub carried_on : (a b c : Line) (os ps : List ℕ) (fs gs : List OutboundFrame) → Carried Brings Writes a os fs b
      → Carried Brings Writes b ps gs c → Carried Brings Writes a (os ++ ps) (fs ++ gs) c
  carried_on a b _ os _ fs _ h nothing =
      subst (λ xs. Carried Brings Writes a xs (fs ++ []) b) (sym (append-nil os))
      (subst (λ xs. Carried Brings Writes a os xs b) (sym (append-nil fs)) h)
  carried_on a b _ os _ fs _ h (came ps gs old new more k step) =
      subst (λ xs. Carried Brings Writes a xs (fs ++ gs) new) (append_assoc os ps more)
      (came (os ++ ps) (fs ++ gs) old new more (carried_on a b old os ps fs gs h k) step)
  carried_on a b _ os _ fs _ h (went ps gs g old new k step) =
      subst (λ xs. Carried Brings Writes a (os ++ ps) xs new) (append_assoc fs gs (g ∷ []))
      (went (os ++ ps) (fs ++ gs) g old new (carried_on a b old os ps fs gs h k) step)

  pub one_came : (old new : Line) (octets : List ℕ) → Brings old octets new → Carried Brings Writes old octets [] new
  one_came old new octets step = came [] [] old new octets nothing step

  -- ---- frames one after the other

  all_out : {T : Type 0} (fs : List OutboundFrame) (old new : Line) (result : Result T NodeError)
      → Carried Brings Writes old [] fs new → HandsOut Brings Writes Fails [] fs old new result
  all_out fs old new result h =
      record {
        front = fs;
        rest = [];
        all = sym (append-nil fs);
        last = new;
        carried = h;
        ended = inl refl;
        lost = inr refl;
      }

  pub all_behind_the_last : {T : Type 0} (fs : List OutboundFrame) (i : ℕ) (old new : Line) (result : Result T NodeError)
      → i ≡ length fs → Carried Brings Writes old [] (take i fs) new
      → HandsOut Brings Writes Fails [] fs old new result
  all_behind_the_last fs i old new result end h =
      all_out fs old new result
      (subst (λ xs. Carried Brings Writes old [] xs new) (ap (λ (n : ℕ). take n fs) end ∙ take-length fs) h)

  -- up to one that wasn't written
  front_out : {T : Type 0} (fs front rest : List OutboundFrame) (old last new : Line) (result : Result T NodeError)
      → fs ≡ front ++ rest → Carried Brings Writes old [] front last → (new ≡ last) ⊎ Fails last new → MayLose result
      → HandsOut Brings Writes Fails [] fs old new result
  front_out fs front rest old last new result all h ends lose =
      record {
        front = front;
        rest = rest;
        all = all;
        last = last;
        carried = h;
        ended = ends;
        lost = inl lose;
      }

  pub one_unwritten : (T S : Type 0) (e : NodeError) (fs front rest : List OutboundFrame) (octets : List ℕ)
      (old last new : Line) → fs ≡ front ++ rest → Carried Brings Writes old [] front last
      → IsWritten {Line = Line} {T = T} Writes Fails octets last new (Err e)
      → HandsOut {Line = Line} {T = S} Brings Writes Fails [] fs old new (Err e)
  one_unwritten T S Net fs front rest octets old last new all h unwritten = absurd unwritten
  one_unwritten T S Read fs front rest octets old last new all h unwritten = absurd unwritten
  one_unwritten T S Write fs front rest octets old last new all h unwritten =
      front_out fs front rest old last new (Err Write) all h (inr unwritten) tt
  one_unwritten T S Memory fs front rest octets old last new all h unwritten =
      front_out fs front rest old last new (Err Memory) all h (inl unwritten) tt
  one_unwritten T S (Serve e) fs front rest octets old last new all h unwritten = absurd unwritten

  -- of frames, the one at a place
  module _ (fs : List OutboundFrame) (i : ℕ) (h : OutboundFrame) (within : i < length fs) (its : h ≡ get_or fs i h)
      (old mid new : Line) (before : Carried Brings Writes old [] (take i fs) mid) where
    pub one_written : Writes mid (frame_octets h.frame) new → Carried Brings Writes old [] (take (suc i) fs) new
    one_written wrote =
        subst (λ xs. Carried Brings Writes old [] xs new)
        (ap (λ g. take i fs ++ g ∷ []) its ∙ sym (take-suc fs i h within))
        (went [] (take i fs) h mid new before wrote)

    pub one_left : (T S : Type 0) (e : NodeError)
        → IsWritten {Line = Line} {T = T} Writes Fails (frame_octets h.frame) mid new (Err e)
        → HandsOut {Line = Line} {T = S} Brings Writes Fails [] fs old new (Err e)
    one_left T S e unwritten =
        one_unwritten T S e fs (take i fs) (drop i fs) (frame_octets h.frame) old mid new
        (sym (take-append-drop i fs)) before unwritten

  -- ---- what comes

  pub hears_more : (a b c : Line) (octets : List ℕ) → MayHear Brings Writes a b → Brings b octets c
      → MayHear Brings Writes a c
  hears_more a b c octets h step = (h.0 ++ octets, came h.0 [] b c octets h.1 step)

  pub hears_on_and_on : (a b c : Line) → MayHear Brings Writes a b → MayHear Brings Writes b c
      → MayHear Brings Writes a c
  hears_on_and_on a b c h k = (h.0 ++ k.0, carried_on a b c h.0 k.0 [] [] h.1 k.1)

  pub has_heard : (a b : Line) → MayHear Brings Writes a b → HasHeard Brings Writes Fails a b
  has_heard a b h = record { octets = h.0; last = b; carried = h.1; ended = inl refl }

  pub has_failed : (a b c : Line) → MayHear Brings Writes a b → Fails b c → HasHeard Brings Writes Fails a c
  has_failed a b c h fails = record { octets = h.0; last = b; carried = h.1; ended = inr fails }

  pub hears_till : (a b c : Line) → MayHear Brings Writes a b → HasHeard Brings Writes Fails b c
      → HasHeard Brings Writes Fails a c
  hears_till a b c h k =
      record {
        octets = h.0 ++ k.octets;
        last = k.last;
        carried = carried_on a b k.last h.0 k.octets [] [] h.1 k.carried;
        ended = k.ended;
      }

  -- ---- words

  -- a word, and then what comes
  pub word_out : {T : Type 0} (word : OutboundFrame) (old mid new : Line) (result : Result T NodeError)
      → meanings_of (word ∷ []) ≡ [] → Writes old (frame_octets word.frame) mid
      → HasHeard Brings Writes Fails mid new → SaysWords Brings Writes Fails old new result
  word_out word old mid new result none wrote heard = (
    heard.octets,
    word ∷ [],
    none,
    record {
      front = word ∷ [];
      rest = [];
      all = refl;
      last = heard.last;
      carried =
          carried_on old mid heard.last [] heard.octets (word ∷ []) [] (went [] [] word old mid nothing wrote)
          heard.carried;
      ended = heard.ended;
      lost = inr refl;
    },
  )

  pub no_word_out : (T S : Type 0) (e : NodeError) (word : OutboundFrame) (old new : Line) → meanings_of (word ∷ []) ≡ []
      → IsWritten {Line = Line} {T = T} Writes Fails (frame_octets word.frame) old new (Err e)
      → SaysWords {Line = Line} {T = S} Brings Writes Fails old new (Err e)
  no_word_out T S e word old new none unwritten = (
    [],
    word ∷ [],
    none,
    one_unwritten T S e (word ∷ []) [] (word ∷ []) (frame_octets word.frame) old old new refl nothing unwritten,
  )
