-- A helper of proofs, no rule of 01: why a program ends before its input does.
use Rattle.std.specs.Prelude.{◌≡◌}
use Rattle.std.specs.IoError.{error_kind}
use Rattle.std.specs.declared.io.ErrorKind.TheVariants.{BrokenPipe}
use Rattle.console.specs.declared.Stop.{Stop}
use Rattle.console.specs.declared.Stop.TheVariants.{Reading, Writing}

-- nobody reads standard output any more
abbrev pub IsUnread : Stop → Type 0
IsUnread (Reading error) = ⊥
IsUnread (Writing error) = error_kind error ≡ BrokenPipe
