-- docs/ABI.md, "Version": raised when an exported signature or record moves.
use Rattle.std.specs.Prelude.{ℕ}

abbrev pub interface_version : ℕ
interface_version = 1
