use Rattle.std.proofs.Common.{◌++◌, ◌∷◌, [], List, ℕ, ◌∙◌, sym, ap, append_assoc}
use Rattle.text_fields.proofs.Appending.{pushed}
use Rattle.prefix_range.proofs.Groups.{address_groups}
use Rattle.prefix_range.proofs.canonical.push_prefix.Goals as goal

pub returns : goal.returns
returns c =
    let same = sym (address_groups c.args.prefix.now.address) in
    let groups = rw (c.first.ensures.value, same) at c.in_ok-push_groups.ensures in
    pushed _ c.args.out.now.items _ _ _ _ _ c.push_number.ensures
    (c.in_ok-push.ensures.items ∙ (ap (λ (l : List ℕ). l ++ 47 ∷ []) groups
    ∙ append_assoc c.args.out.now.items _ (47 ∷ [])))
    (rw (c.from.ensures, c.len.ensures.value) (sym (append_assoc _ (47 ∷ []) _)))
