use Rattle.unit_index.proofs.kind_tree.KindTree.+first_in.Given as goal

abbrev pub decreases-first_in : goal.decreases-first_in
decreases-first_in l = l.levels
