-- A folder's names as data, and the names of the model that they stand for.
use Rattle.std.specs.Prelude.{◌≡◌}
use Rattle.disk_model.specs.Names.{NameCall, Names, after_name_call}
use Rattle.test_support.specs.declared.names.NameState.{NameState}

-- The state is that of the names.
pub record MirrorsNames (s : NameState) (names : Names) : Type 0 where
  pub files : s.files ≡ names.files
  pub sure : s.sure ≡ names.sure
  pub most : s.most ≡ names.most

-- the new state is that of the names after the call, whichever names the old one was of
abbrev pub FollowsName : NameCall → NameState → NameState → Type 0
FollowsName call old new = (names : Names) → MirrorsNames old names → MirrorsNames new (after_name_call call names)
