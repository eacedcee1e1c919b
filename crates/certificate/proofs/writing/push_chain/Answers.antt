use Rattle.std.proofs.Common.{rules, ◌≡◌, ◌∷◌, map, ap, ◌∙◌}
use Rattle.text_fields.specs.Cuts.{behind}
use Rattle.text_fields.proofs.Appending.{pushed}
use Rattle.certificate.specs.Spelling.{ref_text, chain_text}
use Rattle.certificate.proofs.Texts.{chain_spelled}
use Rattle.certificate.proofs.writing.push_chain.Goals as goal

pub returns-in_ok-push_ref-in-Some : goal.returns-in_ok-push_ref-in-Some
returns-in_ok-push_ref-in-Some c =
    let whole : c.args.chain.now ≡ c.in-Some.first.now ∷ c.in-Some.links.now = search rules in
    pushed c.push_links.result c.args.out.now.items c.push_ref.new.out.items c.push_links.new.out.items
    (ref_text c.in-Some.first.now) (behind 62 (map ref_text c.in-Some.links.now))
    (chain_text c.args.chain.now) c.push_links.ensures c.in_ok-push_ref-in-Some.ensures
    (ap chain_text whole ∙ chain_spelled c.in-Some.first.now c.in-Some.links.now)
