use Rattle.std.proofs.Common.{◌≡◌, length, rules}
use Rattle.answer_data.proofs.Feeds.{empty_lines}
use Rattle.answer_data.proofs.texts.lines_of.Goals as goal

pub returns-then-is_empty : goal.returns-then-is_empty
returns-then-is_empty c =
    let none : length c.without_feed-text.result.now ≡ 0 = search rules in
    empty_lines c.args.text.now c.without_feed-text.result.now c.new.result c.without_feed-text.ensures none
    c.new.ensures.items
