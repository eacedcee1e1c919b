use Rattle.std.proofs.Common.{◌≡◌, ◌∙◌, ℕ, ◌+◌, ◌<◌, ◌≤◌, List, ◌++◌, length, get_or, drop, sym, ap, append-nil}
use Rattle.std.proofs.lemmas.List.{drop_all, at_drop_more}
use Rattle.link_notices.specs.Parting.{Token, given, Place, next_place, Parted, behind_tokens, parted}
use Rattle.link_notices.specs.Gathering.{shown}
use Rattle.link_notices.proofs.Runs.{step_is, end_is}
use Rattle.link_notices.proofs.splitter.take_octets.Goals as goal

-- what was given before an octet and all octets from it on, or with it and those behind it
octet_taken : (before after : List Token) (p : Place) (chunk : List ℕ) (i : ℕ) (all : Parted) → i < length chunk
    → after ≡ before ++ given p.stage p.text (get_or chunk i 0) → behind_tokens before (parted p (drop i chunk)) ≡ all
    → behind_tokens after (parted (next_place p (get_or chunk i 0)) (drop (i + 1) chunk)) ≡ all
octet_taken before after p chunk i all lt more so_far =
    rw more (sym (step_is before p (get_or chunk i 0) (drop (i + 1) chunk))
    ∙ sym (at_drop_more (λ (w : List ℕ). behind_tokens before (parted p w)) chunk i 0 lt) ∙ so_far)

all_taken : (before : List Token) (p : Place) (chunk : List ℕ) (i : ℕ) (all : Parted) → length chunk ≤ i
    → behind_tokens before (parted p (drop i chunk)) ≡ all → all ≡ record { place = p; tokens = before }
all_taken before p chunk i all le so_far =
    sym so_far ∙ ap (λ (w : List ℕ). behind_tokens before (parted p w)) (drop_all i chunk le) ∙ end_is before p
    ∙ ap (λ (ts : List Token). record { place = p; tokens = ts }) (append-nil before)

pub loop-octet-preserved : goal.loop-octet-preserved
loop-octet-preserved c =
    rw (c.next_stage-next.ensures, c.in_ok-take_octet.ensures.text)
    (octet_taken (shown c.loop-octet.output) (shown c.take_octet.new.output)
    (record { stage = c.loop-octet.next; text = c.loop-octet.text.items }) c.args.chunk.now c.loop-octet.octet-index _
    c.loop-octet-test.true c.in_ok-take_octet.ensures.given c.loop-octet.invariant)

pub returns : goal.returns
returns c =
    all_taken (shown c.loop-octet.output) (record { stage = c.loop-octet.next; text = c.loop-octet.text.items })
    c.args.chunk.now c.loop-octet.octet-index _ c.loop-octet-test.false c.loop-octet.invariant
