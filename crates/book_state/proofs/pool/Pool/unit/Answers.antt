use Rattle.std.proofs.Common.{arith, ◌≡◌, ◌+◌, ◌*◌, ◌%◌, ◌∙◌, refl, ap₂, ℕ}
use Rattle.prefix_range.specs.Prefix.{size_of}
use Rattle.book_state.proofs.Ranges.{placed, placed_fits, unit_placed_at, whole_pool}
use Rattle.book_state.proofs.pool.Pool.unit.Goals as goal

pub overflow_mul-address : goal.overflow_mul-address
overflow_mul-address c = let fits = placed_fits c.args.self.now c.args.index c.requires.pool c.requires.within in
    rw c.addresses.ensures (omega (arith, fits))

pub overflow_add-address : goal.overflow_add-address
overflow_add-address c = let fits = placed_fits c.args.self.now c.args.index c.requires.pool c.requires.within in
    rw (c.addresses.ensures, c.first.ensures.value) (omega (arith, fits))

pub returns-then-self-eq0 : goal.returns-then-self-eq0
returns-then-self-eq0 c = whole_pool c.args.self.now c.args.index c.args.self.now.prefix c.requires.pool
    c.requires.within c.if-self-eq0.true refl

pub unreachable-requires : goal.unreachable-requires
unreachable-requires c =
    let at = unit_placed_at c.args.self.now c.args.index (placed c.args.self.now c.args.index) c.requires.pool
    c.requires.within refl in
    let sum : c.first.result + c.args.index * c.addresses.result
    ≡ c.args.self.now.prefix.address + c.args.index * size_of c.args.self.now.unit_length
    = ap₂ (λ (a b : ℕ). a + c.args.index * b) c.first.ensures.value c.addresses.ensures in
    let aligned : (c.first.result + c.args.index * c.addresses.result) % size_of c.args.self.now.unit_length ≡ 0 =
    rw sum at.whole.host_bits in
    let made = c.new.ensures.ok at.whole.short aligned in
    absurd cc

pub returns : goal.returns
returns c = unit_placed_at c.args.self.now c.args.index c.in-Ok.unit c.requires.pool c.requires.within
    (c.in-Ok.ensures.made ∙ rw (c.first.ensures.value, c.addresses.ensures) refl)
