use Rattle.std.proofs.Common.{◌≡◌, ◌++◌, take}
use Rattle.std.specs.Prelude.{map}
use Rattle.text_fields.specs.Cuts.{behind}
use Rattle.certificate.specs.Spelling.{ref_text}
use Rattle.certificate.proofs.writing.push_links.Given as goal

abbrev pub invariant-loop-link : goal.invariant-loop-link
invariant-loop-link l = l.out.items ≡ l.fn.out.items ++ behind 62 (map ref_text (take l.link-index l.links))
