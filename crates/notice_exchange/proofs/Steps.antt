-- What a talk makes of what came, part by part.
use Rattle.std.specs.Prelude.{◌≡◌, ℕ, true, false, List, [], ◌∷◌, ◌++◌, Option, Some, None}
use Rattle.std.proofs.Common.{refl, ap, sym, ◌∙◌, subst, append-nil, append_assoc}
use Rattle.link_notices.specs.declared.notice.Notice.{Notice}
use Rattle.notice_exchange.specs.Exchanges.{Exchange, MayJoin, heard}
use Rattle.notice_exchange.specs.Talks.{Talk, IsStep, passed, hears, begins, hands_on}
use Rattle.notice_exchange.specs.Talks.{LeadsTo, nothing, silent, more, PutsBehind}
use Rattle.notice_exchange.specs.declared.talk.LinkEvent.{LinkEvent}
use Rattle.notice_exchange.specs.declared.talk.LinkEvent.TheVariants.{Begins, Frames}

pub hears_one : (old : Talk) (e : Exchange) (n : Notice) (now : ℕ) → e ≡ heard n now old.exchange
    → IsStep old None (record old { exchange = e })
hears_one old e n now is =
    subst (λ (x : Exchange). IsStep old None (record old { exchange = x })) (sym is) (hears n now)

pub begins_by : (old : Talk) (e : Exchange) (n : Notice) (now : ℕ) → e ≡ heard n now old.exchange
    → old.may_join ≡ false → MayJoin e → IsStep old (Some Begins) (record { exchange = e; may_join = true })
begins_by old e n now is apart joins =
    subst (λ (x : Exchange). MayJoin x → IsStep old (Some Begins) (record { exchange = x; may_join = true })) (sym is)
    (begins n now apart) joins

pub puts_nothing : (t : Talk) (there : List LinkEvent) → PutsBehind t t there there
puts_nothing t there = record { more = []; appended = sym (append-nil there); leads = nothing }

pub puts_silent : (first old new : Talk) (before after : List LinkEvent) → PutsBehind first old before after
    → IsStep old None new → PutsBehind first new before after
puts_silent first old new before after h step = record {
  more = h.more;
  appended = h.appended;
  leads = silent h.more old new h.leads step;
}

pub puts_event : (first old new : Talk) (before there after : List LinkEvent) (event : LinkEvent)
    → PutsBehind first old before there → IsStep old (Some event) new → after ≡ there ++ event ∷ []
    → PutsBehind first new before after
puts_event first old new before there after event h step pushed = record {
  more = h.more ++ event ∷ [];
  appended = pushed ∙ ap (λ xs. xs ++ event ∷ []) h.appended ∙ append_assoc before h.more (event ∷ []);
  leads = more h.more event old new h.leads step;
}
