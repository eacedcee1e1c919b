-- What is heard and written in one turn of the link, and in turns one after the other.
use Rattle.std.specs.Prelude.{◌≡◌, ◌⊎◌, ℕ, None, false, List, [], ◌∷◌, ◌++◌, Result, Ok, Err, OnOk, refl}
use Rattle.std.proofs.Common.{ap, sym, ◌∙◌, subst, append_assoc, append-nil, inl, inr}
use Rattle.std.proofs.lemmas.List.Elements.{filter_map-append}
use Rattle.binding_rules.specs.declared.message.PartnerMessage.{PartnerMessage}
use Rattle.binding_rules.specs.declared.role.Role.{Role}
use Rattle.binding_rules.specs.declared.role.Role.TheVariants.{Primary, Secondary}
use Rattle.locked_book.specs.declared.receipt.Receipt.{Receipt}
use Rattle.failover_session.specs.declared.outbox.OutboundFrame.{OutboundFrame}
use Rattle.failover_session.specs.declared.link_input.LinkInput.{LinkInput}
use Rattle.failover_session.specs.OutboundFrames.{FrameMeaning, meaning_in, meanings_of, sends_of, greeting_kind, opening}
use Rattle.failover_session.specs.Receipts.{last_taken}
use Rattle.failover_session.specs.declared.policy.SessionPolicy.TheVariants.{Run}
use Rattle.failover_session.specs.declared.stage.SessionStage.TheVariants.{Greeting}
use Rattle.failover_session.specs.Sessions.{Handles, Met, Unmet, met_at, IsGoing, first_meanings}
use Rattle.failover_session.specs.Polling.{SessionModel, octets_of, IsPoll, IsWholePoll}
use Rattle.failover_session.proofs.Hearing.{hears_nothing, hears_on}
use Rattle.node_threads.specs.declared.error.NodeError.{NodeError}
use Rattle.node_threads.specs.declared.error.NodeError.TheVariants.{Memory}
use Rattle.node_threads.specs.Reading.{HeardAll, HeardOn, AllBehind, HeardFront, FrontBehind, HeardTill}
use Rattle.node_threads.specs.Writing.{Carried, nothing, MayLose, HandsOut, SaysWords, HearsBehind, WritesInOrder, HasTold}
use Rattle.node_threads.proofs.Reading.{front_heard, heard_on, all_on, till_front, front_more, nothing_heard}
use Rattle.node_threads.proofs.Wires.{carried_on, one_came}

-- ---- frames

-- the same behind other frames
behind : (role : Role) (gs fs : List OutboundFrame) (heard : List PartnerMessage) (x y : Met) (a b : List Receipt)
    → HearsBehind role [] heard x y a b fs → Handles role heard x y a b gs (gs ++ fs)
behind role gs fs heard x y a b behind_words =
    let h = behind_words.2 in
    let first : List FrameMeaning = first_meanings role x y a in
    let sends : List FrameMeaning = sends_of h.added in
    let its : meanings_of fs ≡ first ++ sends = h.sends ∙ ap (λ ms. ms ++ first ++ sends) behind_words.1 in
    record {
      added = h.added;
      all = h.all;
      takes = h.takes;
      next = h.next;
      sends =
          filter_map-append meaning_in gs fs
          ∙ (ap (λ ms. meanings_of gs ++ ms) its ∙ sym (append_assoc (meanings_of gs) first sends));
      stays = h.stays;
      sent = h.sent;
      silent = h.silent;
    }

all_behind : (role : Role) (first : List FrameMeaning) (x y z : Met) (a b c : List Receipt) (fs gs : List OutboundFrame)
    (heard more : List PartnerMessage) → HearsBehind role first heard x y a b fs → HearsBehind role [] more y z b c gs
    → HearsBehind role first (heard ++ more) x z a c (fs ++ gs)
all_behind role first x y z a b c fs gs heard more h k = (
  h.0,
  h.1,
  hears_on role x y z a b c h.0 fs (fs ++ gs) heard more h.2 (behind role fs gs more y z b c k),
)

turn_alone : (role : Role) (heard : List PartnerMessage) (x y : Met) (a b : List Receipt) (fs : List OutboundFrame)
    → Handles role heard x y a b [] fs → HearsBehind role [] heard x y a b fs
turn_alone role heard x y a b fs h = ([], refl, h)

-- words that say nothing of a journal, or what is said first
words_alone : (role : Role) (first : List FrameMeaning) (x : Met) (a : List Receipt) (words : List OutboundFrame)
    → meanings_of words ≡ first → HearsBehind role first [] x x a a words
words_alone role first x a words said = (words, said, hears_nothing role x a a words words refl refl)

-- the frames of what is said first
abbrev opening_words : Role → List Receipt → List OutboundFrame
opening_words Primary had =
    record { frame = record { term = 0; serial = 0; kind = greeting_kind Primary (last_taken had) }; number = None }
    ∷ []
opening_words Secondary had = []

opening_said : (role : Role) (had : List Receipt) → meanings_of (opening_words role had) ≡ opening role had
opening_said Primary had = refl
opening_said Secondary had = refl

module _ {Line : Type 0} (Brings Writes : Line → List ℕ → Line → Type 0) (Fails : Line → Line → Type 0)
    (role : Role) where
  -- ---- one turn

  -- nothing was written, and nothing is to be
  pub told_nothing : {T : Type 0} (Reads : List ℕ → List PartnerMessage → Type 0) (x : Met) (a : List Receipt)
      (old last new : Line) (octets : List ℕ) (result : Result T NodeError) → Reads octets []
      → Carried Brings Writes old octets [] last → (new ≡ last) ⊎ Fails last new
      → WritesInOrder Brings Writes Fails Reads role [] x x a a old new result
  told_nothing Reads x a old last new octets result reads h ends =
      record {
        octets = octets;
        frames = [];
        rest = [];
        heard = [];
        reads = reads;
        told = words_alone role [] x a [] refl;
        last = last;
        carried = h;
        ended = ends;
        lost = inr refl;
      }

  -- a turn of the talk, from one state of it to the next, and what it hands out is written
  module _ (it : LinkInput) (s t u : SessionModel) (none : s.handed ≡ []) (out : u ≡ record t { handed = [] })
      (a b : List Receipt) (old new : Line) where
    turned : IsPoll role it s.held (met_at s.stage) (met_at t.stage) a b s.handed t.handed
        → IsPoll role it s.held (met_at s.stage) (met_at u.stage) a b [] t.handed
    turned turn =
        subst (λ fs. IsPoll role it s.held (met_at s.stage) (met_at u.stage) a b fs t.handed) none
        (subst (λ v. IsPoll role it s.held (met_at s.stage) (met_at v.stage) a b s.handed t.handed) (sym out) turn)

    reads_front : (turn : IsPoll role it s.held (met_at s.stage) (met_at u.stage) a b [] t.handed)
        → FrontBehind s.held (octets_of it) [] turn.2.0
    reads_front turn =
        front_more s.held (octets_of it) [] turn.2.0
        (front_heard role it s.held (met_at s.stage) (met_at u.stage) a b [] t.handed turn)

    tells_turn : {S T : Type 0} (wrote : Result S NodeError) (result : Result T NodeError)
        → IsPoll role it s.held (met_at s.stage) (met_at u.stage) a b [] t.handed
        → HandsOut Brings Writes Fails [] t.handed old new wrote → (MayLose wrote → MayLose result)
        → WritesInOrder Brings Writes Fails (FrontBehind s.held (octets_of it)) role [] (met_at s.stage) (met_at u.stage) a b
        old new result
    tells_turn wrote result turn written loses =
        record {
          octets = [];
          frames = written.front;
          rest = written.rest;
          heard = turn.2.0;
          reads = reads_front turn;
          told =
              turn_alone role turn.2.0 (met_at s.stage) (met_at u.stage) a b (written.front ++ written.rest)
              (subst (λ fs. Handles role turn.2.0 (met_at s.stage) (met_at u.stage) a b [] fs) written.all turn.2.3);
          last = written.last;
          carried = written.carried;
          ended = written.ended;
          lost = lost_by written.lost;
        }
      where
        lost_by : MayLose wrote ⊎ (written.rest ≡ []) → MayLose result ⊎ (written.rest ≡ [])
        lost_by (inl l) = inl (loses l)
        lost_by (inr left) = inr left

    pub turn_told : {S T : Type 0} (wrote : Result S NodeError) (result : Result T NodeError)
        → IsPoll role it s.held (met_at s.stage) (met_at t.stage) a b s.handed t.handed
        → HandsOut Brings Writes Fails [] t.handed old new wrote → (MayLose wrote → MayLose result)
        → WritesInOrder Brings Writes Fails (FrontBehind s.held (octets_of it)) role [] (met_at s.stage) (met_at u.stage) a b
        old new result
    turn_told wrote result turn written loses = tells_turn wrote result (turned turn) written loses

    pub turn_has_told : IsPoll role it s.held (met_at s.stage) (met_at t.stage) a b s.handed t.handed
        → Carried Brings Writes old [] t.handed new
        → HasTold Brings Writes (FrontBehind s.held (octets_of it)) role [] (met_at s.stage) (met_at u.stage) a b old
        new
    turn_has_told turn written =
        let its = turned turn in
        record {
          octets = [];
          frames = t.handed;
          heard = its.2.0;
          reads = reads_front its;
          told = turn_alone role its.2.0 (met_at s.stage) (met_at u.stage) a b t.handed its.2.3;
          carried = written;
        }

    whole : IsWholePoll role it s.held t.held (met_at s.stage) (met_at t.stage) a b s.handed t.handed
        → Carried Brings Writes old [] t.handed new
        → HasTold Brings Writes (AllBehind s.held t.held (octets_of it)) role [] (met_at s.stage) (met_at t.stage) a b
        old new
    whole turn written =
        record {
          octets = [];
          frames = t.handed;
          heard = turn.0;
          reads =
              subst (λ os. HeardOn s.held t.held os turn.0) (sym (append-nil (octets_of it)))
              (heard_on it s.held t.held turn.0 turn.1);
          told =
              turn_alone role turn.0 (met_at s.stage) (met_at t.stage) a b t.handed
              (subst (λ fs. Handles role turn.0 (met_at s.stage) (met_at t.stage) a b fs t.handed) none turn.2);
          carried = written;
        }

    pub whole_has_told :
        (IsGoing t.stage → IsWholePoll role it s.held t.held (met_at s.stage) (met_at t.stage) a b s.handed t.handed)
        → Carried Brings Writes old [] t.handed new
        → IsGoing u.stage → HasTold Brings Writes (AllBehind s.held u.held (octets_of it)) role [] (met_at s.stage)
        (met_at u.stage) a b old new
    whole_has_told turn written =
        subst (λ v. IsGoing v.stage → HasTold Brings Writes (AllBehind s.held v.held (octets_of it)) role []
        (met_at s.stage) (met_at v.stage) a b old new) (sym out) (λ going. whole (turn going) written)

  -- ---- a read, and then a turn

  module _ (Reads : List ℕ → List PartnerMessage → Type 0) (x y : Met) (a b : List Receipt) (old mid new : Line)
      (octets brought : List ℕ) (same : octets ≡ brought) (read : Brings old brought mid) where
    pub read_then_tells : {T : Type 0} (result : Result T NodeError)
        → WritesInOrder Brings Writes Fails (λ more heard. Reads (octets ++ more) heard) role [] x y a b mid new result
        → WritesInOrder Brings Writes Fails Reads role [] x y a b old new result
    read_then_tells result k =
        record {
          octets = brought ++ k.octets;
          frames = k.frames;
          rest = k.rest;
          heard = k.heard;
          reads = subst (λ os. Reads (os ++ k.octets) k.heard) same k.reads;
          told = k.told;
          last = k.last;
          carried =
              carried_on Brings Writes Fails old mid k.last brought k.octets [] k.frames
              (one_came Brings Writes Fails old mid brought read) k.carried;
          ended = k.ended;
          lost = k.lost;
        }

    read_then_has_told :
        HasTold Brings Writes (λ more heard. Reads (octets ++ more) heard) role [] x y a b mid new
        → HasTold Brings Writes Reads role [] x y a b old new
    read_then_has_told k =
        record {
          octets = brought ++ k.octets;
          frames = k.frames;
          heard = k.heard;
          reads = subst (λ os. Reads (os ++ k.octets) k.heard) same k.reads;
          told = k.told;
          carried =
              carried_on Brings Writes Fails old mid new brought k.octets [] k.frames
              (one_came Brings Writes Fails old mid brought read) k.carried;
        }

    pub read_then_whole : {T : Type 0} (result : Result T NodeError) (Going : Type 0)
        → OnOk result (Going → HasTold Brings Writes (λ more heard. Reads (octets ++ more) heard) role [] x y a b mid
        new)
        → OnOk result (Going → HasTold Brings Writes Reads role [] x y a b old new)
    read_then_whole (Ok t) Going k = λ going. read_then_has_told (k going)
    read_then_whole (Err e) Going k = tt

  -- ---- one thing behind another

  module _ (first : List FrameMeaning) (x y z : Met) (a b c : List Receipt) (held : List ℕ) (old mid new : Line)
      (h : HasTold Brings Writes (HeardAll held) role first x y a b old mid) where
    pub then_tells : {T : Type 0} (result : Result T NodeError)
        → WritesInOrder Brings Writes Fails (HeardFront held) role [] y z b c mid new result
        → WritesInOrder Brings Writes Fails HeardTill role first x z a c old new result
    then_tells result k =
        record {
          octets = h.octets ++ k.octets;
          frames = h.frames ++ k.frames;
          rest = k.rest;
          heard = h.heard ++ k.heard;
          reads = till_front held h.octets k.octets h.heard k.heard h.reads k.reads;
          told =
              subst (λ fs. HearsBehind role first (h.heard ++ k.heard) x z a c fs)
              (sym (append_assoc h.frames k.frames k.rest))
              (all_behind role first x y z a b c h.frames (k.frames ++ k.rest) h.heard k.heard h.told k.told);
          last = k.last;
          carried =
              carried_on Brings Writes Fails old mid k.last h.octets k.octets h.frames k.frames h.carried k.carried;
          ended = k.ended;
          lost = k.lost;
        }

    pub then_has_told : (rest : List ℕ) → HasTold Brings Writes (HeardOn held rest) role [] y z b c mid new
        → HasTold Brings Writes (HeardAll rest) role first x z a c old new
    then_has_told rest k =
        record {
          octets = h.octets ++ k.octets;
          frames = h.frames ++ k.frames;
          heard = h.heard ++ k.heard;
          reads = all_on held rest h.octets k.octets h.heard k.heard h.reads k.reads;
          told = all_behind role first x y z a b c h.frames k.frames h.heard k.heard h.told k.told;
          carried = carried_on Brings Writes Fails old mid new h.octets k.octets h.frames k.frames h.carried k.carried;
        }

  -- ---- words

  pub then_says : {T : Type 0} (held octets : List ℕ) (none : octets ≡ []) (x y : Met) (a b : List Receipt)
      (old mid new : Line) (result : Result T NodeError)
      → HasTold Brings Writes (λ more heard. HeardFront held (octets ++ more) heard) role [] x y a b old mid
      → SaysWords Brings Writes Fails mid new result
      → WritesInOrder Brings Writes Fails (HeardFront held) role [] x y a b old new result
  then_says held octets none x y a b old mid new result h says =
      let written = says.3 in
      let words : HearsBehind role [] [] y y b b (written.front ++ written.rest) =
      words_alone role [] y b (written.front ++ written.rest) (ap meanings_of (sym written.all) ∙ says.2) in
      record {
        octets = h.octets ++ says.0;
        frames = h.frames ++ written.front;
        rest = written.rest;
        heard = h.heard;
        reads =
            front_more held h.octets says.0 h.heard
            (subst (λ os. HeardFront held (os ++ h.octets) h.heard) none h.reads);
        told =
            subst (λ fs. HearsBehind role [] h.heard x y a b fs)
            (sym (append_assoc h.frames written.front written.rest))
            (subst (λ ms. HearsBehind role [] ms x y a b (h.frames ++ (written.front ++ written.rest)))
            (append-nil h.heard)
            (all_behind role [] x y y a b b h.frames (written.front ++ written.rest) h.heard [] h.told words));
        last = written.last;
        carried =
            carried_on Brings Writes Fails old mid written.last h.octets says.0 h.frames written.front h.carried
            written.carried;
        ended = written.ended;
        lost = written.lost;
      }

  -- what is said first, before the partner is met
  pub opening_told : {T : Type 0} (a : List Receipt) (words : List OutboundFrame) (old new : Line)
      (result : Result T NodeError) → meanings_of words ≡ opening role a
      → HandsOut Brings Writes Fails [] words old new result
      → WritesInOrder Brings Writes Fails HeardTill role (opening role a) Unmet Unmet a a old new result
  opening_told a words old new result said written =
      record {
        octets = [];
        frames = written.front;
        rest = written.rest;
        heard = [];
        reads = till_front [] [] [] [] [] nothing_heard (inl refl);
        told = subst (λ fs. HearsBehind role (opening role a) [] Unmet Unmet a a fs) written.all
            (words_alone role (opening role a) Unmet a words said);
        last = written.last;
        carried = written.carried;
        ended = written.ended;
        lost = written.lost;
      }

  -- memory lacked for it
  pub opening_lost : {T : Type 0} (a : List Receipt) (old : Line) (result : Result T NodeError) → result ≡ Err Memory
      → WritesInOrder Brings Writes Fails HeardTill role (opening role a) Unmet Unmet a a old old result
  opening_lost a old result lost =
      record {
        octets = [];
        frames = [];
        rest = opening_words role a;
        heard = [];
        reads = till_front [] [] [] [] [] nothing_heard (inl refl);
        told = words_alone role (opening role a) Unmet a (opening_words role a) (opening_said role a);
        last = old;
        carried = nothing;
        ended = inl refl;
        lost = inl (subst (λ r. MayLose r) (sym lost) tt);
      }

  opening_has_told : (a : List Receipt) (words : List OutboundFrame) (old new : Line) → meanings_of words ≡ opening role a
      → Carried Brings Writes old [] words new
      → HasTold Brings Writes (HeardAll []) role (opening role a) Unmet Unmet a a old new
  opening_has_told a words old new said written =
      record {
        octets = [];
        frames = words;
        heard = [];
        reads = nothing_heard;
        told = words_alone role (opening role a) Unmet a words said;
        carried = written;
      }

  pub opening_whole : {T : Type 0} (a : List Receipt) (words : List OutboundFrame) (old new : Line)
      (result : Result T NodeError) → meanings_of words ≡ opening role a
      → OnOk result (Carried Brings Writes old [] words new)
      → OnOk result (HasTold Brings Writes (HeardAll []) role (opening role a) Unmet Unmet a a old new)
  opening_whole a words old new (Ok t) said written = opening_has_told a words old new said written
  opening_whole a words old new (Err e) said written = tt

  pub talk_begun : (s : SessionModel) (first : List FrameMeaning) (a : List Receipt) (old new : Line)
      → s ≡ record { policy = Run; held = []; stage = Greeting; told_all = false; handed = [] }
      → HasTold Brings Writes (HeardAll []) role first Unmet Unmet a a old new
      → HasTold Brings Writes (HeardAll s.held) role first Unmet (met_at s.stage) a a old new
  talk_begun s first a old new begins h =
      subst (λ t. HasTold Brings Writes (HeardAll t.held) role first Unmet (met_at t.stage) a a old new) (sym begins) h
