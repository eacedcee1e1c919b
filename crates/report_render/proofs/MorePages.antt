-- A page, of the texts of its title and of the moment that was asked about.
use Rattle.std.proofs.Common.{◌≡◌, ℕ, List, ◌++◌, Option, Bor, ap, ◌∙◌}
use Rattle.zone_times.specs.declared.zone.ZoneFile.{ZoneFile}
use Rattle.report_render.specs.declared.page.Page.{Page}
use Rattle.report_render.specs.Title.{IsTitle}
use Rattle.report_render.specs.Facts.{IsAskedText}
use Rattle.report_render.specs.Grants.{AreGrants}
use Rattle.report_render.specs.VolumeLines.{AreVolumeLines}
use Rattle.report_render.specs.Page.{page_html, IsPage}

pub page_is : (clock : Option (Bor ZoneFile)) (p : Page) (title asked grants lines tables text : List ℕ)
    → IsTitle clock p.title title → IsAskedText clock p.facts.question asked → AreGrants p.pieces.now grants
    → AreVolumeLines p.origins p.cited.now lines → tables ≡ grants ++ lines → text ≡ page_html p title asked tables
    → IsPage clock p text
page_is clock p title asked grants lines tables text t a g l both e = record {
  title = title;
  title_is = t;
  asked = asked;
  asked_is = a;
  grants = grants;
  grants_are = g;
  lines = lines;
  lines_are = l;
  whole = e ∙ ap (page_html p title asked) both;
}
