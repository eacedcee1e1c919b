-- The lines before a certificate, and the certificate.
use Rattle.std.specs.Prelude.{◌≡◌, ℕ, List, [], ◌++◌}
use Rattle.std.proofs.Common.{◌∙◌, ap}
use Rattle.text_fields.specs.Cuts.{with_stops}
use Rattle.causal_order.specs.declared.certificate.Certificate.{Certificate}
use Rattle.certificate.specs.Spelling.{certificate_text}
use Rattle.attribution_desk.specs.Who.{held_lines}

pub held_spelled : (c : Certificate) (from lent_from to lent_to text lent start lines out : List ℕ) → start ≡ []
    → lines ≡ start ++ with_stops 10 (held_lines c lent_from lent_to)
    → lent_from ≡ from → lent_to ≡ to → lent ≡ text → text ≡ certificate_text c → out ≡ lines ++ lent
    → out ≡ with_stops 10 (held_lines c from to) ++ certificate_text c
held_spelled c from lent_from to lent_to text lent start lines out s l f t e is o =
    o
    ∙ (ap (λ (x : List ℕ). x ++ lent) (l ∙ (ap (λ (x : List ℕ). x ++ with_stops 10 (held_lines c lent_from lent_to)) s
    ∙ (ap (λ (x : List ℕ). with_stops 10 (held_lines c x lent_to)) f
    ∙ ap (λ (x : List ℕ). with_stops 10 (held_lines c from x)) t)))
    ∙ ap (λ (x : List ℕ). with_stops 10 (held_lines c from to) ++ x) (e ∙ is))
