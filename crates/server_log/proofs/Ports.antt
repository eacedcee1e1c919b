-- A relay port that was noted.
use Rattle.std.specs.Prelude.{◌<◌, ℕ}
use Rattle.std.proofs.Common.{inr}
use Rattle.std.specs.declared.alloc.Global.{Global}
use Rattle.std.specs.declared.vec.Vec.{Vec}
use Rattle.server_log.specs.declared.refused_ports.PortNews.{PortNews}
use Rattle.server_log.specs.declared.refused_ports.RefusedPorts.{RefusedPorts}
use Rattle.server_log.specs.RefusedPorts.{IsAdded, IsNoted}

pub added : (old new : RefusedPorts) (key : Vec ℕ Global) (news : PortNews) → old.others < 65536
    → IsNoted old new key news → IsAdded old new key news
added old new key news few noted = inr (few, noted)
