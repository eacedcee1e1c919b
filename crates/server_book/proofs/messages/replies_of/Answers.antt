use Rattle.std.proofs.Common.{arith, ap, ap₂, ◌∙◌, ◌++◌, drop, ◌+◌, ◌-◌, List, ℕ, length, length-drop, take, take_all, ◌≡◌}
use Rattle.dhcp6_pd.specs.declared.message.IaReply.{IaReply}
use Rattle.server_book.specs.Messages.{at_first, further_of, replies_of}
use Rattle.server_book.proofs.IaReplies.{reply_further, replies_end}
use Rattle.server_book.proofs.messages.replies_of.Goals as goal

-- what stands behind a place
rest : {A : Type 0} (xs : List A) (n : ℕ) → take (length xs - n) (drop n xs) ≡ drop n xs
rest xs n = take_all (length xs - n) (drop n xs) (omega (arith, length-drop n xs))

pub loop-place-preserved : goal.loop-place-preserved
loop-place-preserved c =
    let next = c.loop-place.place + 1 in
    ap (λ (rs : List IaReply). rs ++ replies_of c.args.hidden (drop next c.args.ias.now) (drop next c.args.answers.now))
    c.in_ok-add_reply.ensures
    ∙ reply_further c.args.hidden _ _ c.loop-place.place c.index-ias-place.result c.index-answers-place.result
    c.at_first-told.result _ _ (omega arith) (omega arith) c.index-ias-place.is c.index-answers-place.is
    (c.at_first-told.ensures
    ∙ ap (at_first c.index-ias-place.result.part c.index-answers-place.result)
    (ap₂ further_of (rest c.args.ias.now next) (rest c.args.answers.now next)))
    c.loop-place.invariant

pub returns : goal.returns
returns c = replies_end c.args.hidden _ _ c.loop-place.place _ _ (omega arith) c.loop-place.invariant
