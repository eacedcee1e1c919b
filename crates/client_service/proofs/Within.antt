-- What is told again ends within its line's lifetime, and before its unit.
use Rattle.std.proofs.Common.{arith}
use Rattle.client_service.specs.LeaseLaws.{ReuseIsWithin, ReuseEndsBefore, NothingIsToldAgain}

pub again_is_within : ReuseIsWithin
again_is_within t granted valid own_end now anew told written asked came may wrote asks comes =
    let remains = may.remains in
    let some = may.some in
    omega (arith, remains, some, wrote, asks, comes)

pub again_ends_before : ReuseEndsBefore
again_ends_before t granted valid own_end now anew told asked came may asks comes =
    let remains = may.remains in
    let some = may.some in
    omega (arith, remains, some, asks, comes)

pub none_again : NothingIsToldAgain
none_again t life told granted valid own_end now read anew again released asked ends late reads behind asks may =
    let young = may.young in
    late (omega (arith, young), omega (arith, ends), omega (arith, young, ends, reads, behind, asks))
