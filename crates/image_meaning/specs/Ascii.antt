-- A text of ASCII characters as the bytes that it stands for. Assumes nothing.
use Rattle.std.specs.Prelude.{ℕ, List, [], ◌∷◌}
use Prim.Native.Char.{code}
use Prim.Native.String.{String, [] as nothing, ◌∷◌ as ◌then◌}

abbrev pub ascii : String → List ℕ
ascii nothing = []
ascii (c then s) = code c ∷ ascii s
