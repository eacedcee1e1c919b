use Rattle.std.specs.Prelude.{replicate}
use Rattle.std.proofs.Common.{refl, rules, ◌∙◌}
use Rattle.daemon_io.proofs.NonceLaws.{nonce_drawn, nonce_end}
use Rattle.daemon_io.proofs.connection_source.nonce_of.Goals as goal

pub returns-clause-drawn : goal.returns-clause-drawn
returns-clause-drawn c =
    nonce_drawn c.copy_from_slice.new.self (replicate 32 0) c.copy_from_slice-2.new.self (search rules) refl
    ∙ c.copy_from_slice.ensures.after

pub returns-clause-end : goal.returns-clause-end
returns-clause-end c =
    nonce_end c.copy_from_slice.new.self (replicate 32 0) c.copy_from_slice-2.new.self (search rules) refl
    ∙ c.copy_from_slice-2.ensures.after
