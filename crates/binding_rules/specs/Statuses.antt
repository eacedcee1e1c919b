-- For bodies only: what is so of each status.
use Rattle.std.proofs.Common.{ℕ, ◌^◌, ◌≤◌, arith}
use Rattle.binding_rules.specs.declared.update.Status.{Status}
use Rattle.binding_rules.specs.declared.update.Status.TheVariants.{Active, Expired, Released, Backup, Free, Seized}
use Rattle.binding_rules.specs.Messages.{latest_end}

-- each status in turn
pub by_status : (P : Status → Type 0)
    → P Active → P Expired → P Released → P Backup → P Free → P Seized → (s : Status) → P s
by_status P active expired released backup free seized Active = active
by_status P active expired released backup free seized Expired = expired
by_status P active expired released backup free seized Released = released
by_status P active expired released backup free seized Backup = backup
by_status P active expired released backup free seized Free = free
by_status P active expired released backup free seized Seized = seized

-- no status has an end past the largest reading
pub end_fits : (s : Status) → latest_end s ≤ 2 ^ 49
end_fits =
    by_status (λ s. latest_end s ≤ 2 ^ 49)
    (omega arith) (omega arith) (omega arith) (omega arith) (omega arith) (omega arith)
