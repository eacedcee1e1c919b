use Rattle.text_fields.specs.Cuts.{behind}
use Rattle.text_fields.proofs.Appending.{pushed}
use Rattle.causal_order.specs.declared.certificate.Reason.TheVariants.{Released}
use Rattle.certificate.specs.Spelling.{latest_words, reason_words}
use Rattle.certificate.proofs.Texts.{release_words, released_spelled}
use Rattle.certificate.proofs.writing.add_released.Goals as goal

pub returns : goal.returns
returns c =
    let release = c.args.release in
    let order = c.args.order.now in
    let latest = c.args.latest.now in
    pushed c.add_latest.result c.args.out.now.items c.add_release.new.out.items c.add_latest.new.out.items
    (behind 32 (release_words release order)) (behind 32 (latest_words latest))
    (behind 32 (reason_words (Released release order latest))) c.add_latest.ensures c.in_ok-add_release.ensures
    (released_spelled release order latest)
