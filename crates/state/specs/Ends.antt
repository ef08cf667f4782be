-- How a walk stands, by its end, as a test; and the ends' numbers, which the words of a state have.
-- Assumes nothing.
use Rattle.std.specs.Prelude.{Bool, true, false, ℕ}
use Rattle.state.specs.declared.End.{End}

-- whether the walk goes on
abbrev pub more_to_try : End → Bool
more_to_try End.More = true
more_to_try End.Found = false
more_to_try End.None = false
more_to_try End.Full = false
more_to_try (End.Other n) = false

-- whether a formula is found
abbrev pub at_found : End → Bool
at_found End.More = false
at_found End.Found = true
at_found End.None = false
at_found End.Full = false
at_found (End.Other n) = false

-- 0 more to try, 1 FOUND, 2 NONE, 3 FULL
abbrev pub end_number : End → ℕ
end_number End.More = 0
end_number End.Found = 1
end_number End.None = 2
end_number End.Full = 3
end_number (End.Other n) = n

-- an end that a walk comes to: any but a made-up one
abbrev pub Ours : End → Type 0
Ours End.More = Unit {0}
Ours End.Found = Unit {0}
Ours End.None = Unit {0}
Ours End.Full = Unit {0}
Ours (End.Other n) = ⊥
