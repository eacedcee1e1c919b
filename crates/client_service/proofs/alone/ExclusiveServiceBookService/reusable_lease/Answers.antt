use Rattle.std.proofs.Common.{refl, ◌≡◌}
use Rattle.client_service.specs.Lines.{receipts_of}
use Rattle.client_service.proofs.ToldAgain.{found_recalled, refused_recalled}
use Rattle.client_service.proofs.Books.{last_stands}
use Rattle.client_service.proofs.alone.ExclusiveServiceBookService.reusable_lease.Goals as goal

pub returns-in-Ok : goal.returns-in-Ok
returns-in-Ok c =
    let j = c.args.book.now in
    record {
      recalled = found_recalled (λ receipts i. receipts ≡ receipts_of i) c.args.terms.now c.args.now (receipts_of j)
          c.args.order.now j c.journal-legal.ensures.legal refl (last_stands j) c.in-Ok.found c.in-Ok.ensures.standing;
    }

pub returns-in-Err : goal.returns-in-Err
returns-in-Err c =
    let j = c.args.book.now in
    record {
      recalled = refused_recalled (λ receipts i. receipts ≡ receipts_of i) c.args.terms.now c.args.now (receipts_of j)
          c.args.order.now j c.journal-legal.ensures.legal refl (last_stands j) c.in-Err.error c.in-Err.ensures.refused;
    }
