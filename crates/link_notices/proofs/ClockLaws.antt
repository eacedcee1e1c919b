-- Two clocks: right ones, and by how much one is ahead.
use Rattle.std.proofs.Common.{ℕ, ◌+◌, ◌*◌, ◌<◌, ◌≤◌, arith, inl, inr}
use Rattle.std.specs.Prelude.{◌≡◌, ◌⊎◌, ℤ, pos, ◌+ℤ◌, ◌≤ℤ◌}
use Rattle.std.proofs.lemmas.Int.{ints}
use Rattle.link_notices.specs.declared.clocks.ClockExchange.{ClockExchange}
use Rattle.link_notices.specs.declared.clocks.ClockRange.{ClockRange}
use Rattle.link_notices.specs.Clocks.{IsTooFarOff, MayShow, IsExchange, IsRange, IsAsked, IsAheadBy}

apart : (asked answered back asking answering backing skew judged : ℕ) → skew ≤ judged → asking ≤ answering
    → answering ≤ backing → MayShow skew asking asked → MayShow skew answering answered → MayShow skew backing back
    → (back + 2 * judged < answered) ⊎ (answered + 2 * judged < asked) → ⊥
apart asked answered back asking answering backing skew judged le first second a b c (inl off) =
    let most = b.most in
    let least = c.least in
    omega arith
apart asked answered back asking answering backing skew judged le first second a b c (inr off) =
    let most = a.most in
    let least = b.least in
    omega arith

pub right_is_never_off : (e : ClockExchange) (skew judged : ℕ) → skew ≤ judged → IsExchange skew e
    → IsTooFarOff judged e → ⊥
right_is_never_off e skew judged le x off = apart e.asked e.answered e.back x.asking x.answering x.backing skew judged
    le x.first x.second x.asked x.answered x.back off.outside

-- ---- by how much one is ahead

-- nothing that a clock shows before is more than what it shows
not_less : (least : ℤ) (back answered own other : ℕ) → least +ℤ pos back ≡ pos answered → answered ≡ other → own ≤ back
    → (least +ℤ pos own) ≤ℤ pos other
not_less least back answered own other range same le = omega (arith, ints, range, same, le)

not_more : (most : ℤ) (asked answered own other : ℕ) → most +ℤ pos asked ≡ pos answered → answered ≡ other → asked ≤ own
    → pos other ≤ℤ (most +ℤ pos own)
not_more most asked answered own other range same le = omega (arith, ints, range, same, le)

pub range_holds : (own other : ℕ → ℕ) (e : ClockExchange) (r : ClockRange) → IsRange e r → (x : IsAsked own other e)
    → IsAheadBy (own x.answering) (other x.answering) r
range_holds own other e r range x = record {
  least = not_less r.least e.back e.answered (own x.answering) (other x.answering) range.least x.answered
      (omega (arith, x.back, x.forward.each x.answering x.backing x.first x.second (omega arith)));
  most = not_more r.most e.asked e.answered (own x.answering) (other x.answering) range.most x.answered
      (omega (arith, x.asked, x.forward.each x.asking x.answering (omega arith) x.first x.second));
}
