-- What other clients had of a prefix, kept for those certificates that ask of it: for bodies only.
use Rattle.std.specs.Prelude.{IfSome, ℕ, List, [], ◌∷◌, ◌++◌, All, None}
use Rattle.std.specs.Int.{w128, to_be_bytes}
use Rattle.causal_order.specs.Journals.{Journals}
use Rattle.causal_order.specs.declared.certificate.Certificate.{Certificate}
use Rattle.auditor.specs.Known.{AreOthers}
use Rattle.parallel_check.specs.declared.sharing.SharedForeign.{SharedForeign}

-- what is kept is right
abbrev pub IsKnown : Journals → SharedForeign → Type 0
IsKnown js k = IfSome k.others (λ refs. AreOthers js k.holder k.prefix refs.items)

abbrev pub AreKnown : Journals → List SharedForeign → Type 0
AreKnown js known = All (IsKnown js) known

-- what a certificate asks of, nothing of which is kept
abbrev pub unknown : Certificate → SharedForeign
unknown c = record { holder = c.holder; prefix = c.prefix; askers = 0; others = None }

-- that as octets: the prefix's address and length, and the holder
abbrev pub asked_by : Certificate → List ℕ
asked_by c = to_be_bytes w128 c.prefix.address ++ (c.prefix.length ∷ []) ++ c.holder
