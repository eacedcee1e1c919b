-- Where nothing is known of what files had, any octets may be a file's first, and any its last.
use Rattle.std.specs.Prelude.{ℕ, ◌-◌, ◌≤◌, ⊤, List, [], ◌++◌, length, replicate}
use Rattle.std.proofs.Common.{refl, sym, arith, append-nil}
use Rattle.std.proofs.lemmas.List.{length-append, length-replicate}
use Rattle.journal_archive.specs.declared.end.FileEnd.{FileEnd}
use Rattle.archive_files.specs.Parts.{IsBeginning, IsEnd}

pub any_beginning : (beginning : List ℕ) → IsBeginning (λ octets. ⊤) beginning
any_beginning beginning = (beginning, tt, ([], sym (append-nil beginning)))

pub any_end : (end : FileEnd) → length end.octets.items ≤ end.size → IsEnd (λ octets. ⊤) end
any_end end le =
    let front = replicate (end.size - length end.octets.items) 0 in (
      front ++ end.octets.items,
      tt,
      (
        front,
        refl,
        omega (
          arith,
          length-append front end.octets.items,
          length-replicate {A = ℕ} (end.size - length end.octets.items) 0,
        ),
      ),
    )
