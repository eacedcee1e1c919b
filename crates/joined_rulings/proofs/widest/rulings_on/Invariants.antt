use Rattle.std.specs.Prelude.{List, ◌++◌, drop}
use Rattle.attribution_desk.specs.Claims.{texts_of}
use Rattle.joined_rulings.specs.declared.widest.CertificateRuling.{CertificateRuling}
use Rattle.joined_rulings.specs.Rulings.{AreRulings}
use Rattle.joined_rulings.proofs.widest.rulings_on.Given as goal

-- the rulings on those that are left, behind those that were made, are those on all
abbrev pub invariant-loop-place : goal.invariant-loop-place
invariant-loop-place g l = (more : List CertificateRuling)
    → AreRulings (g.F.JournalFiles.had l.files) l.archive l.bounds (texts_of (drop l.place l.claims))
    (drop l.place l.owns) more
    → AreRulings (g.F.JournalFiles.had l.files) l.archive l.bounds (texts_of l.claims) l.owns (l.rulings.items ++ more)
