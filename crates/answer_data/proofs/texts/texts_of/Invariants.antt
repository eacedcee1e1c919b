use Rattle.std.proofs.Common.{take}
use Rattle.serde_json.specs.View.{items_view}
use Rattle.report_data.specs.Fields.{IsText}
use Rattle.answer_data.specs.Texts.{AreEach, octets_of}
use Rattle.answer_data.proofs.texts.texts_of.Given as goal

abbrev pub invariant-loop-text : goal.invariant-loop-text
invariant-loop-text l = AreEach IsText (octets_of (take l.text-index l.texts)) (items_view l.values.items)
