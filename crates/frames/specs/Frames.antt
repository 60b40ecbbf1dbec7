-- Blocks of frames: a frame is one number of each side, and frames stand one behind the other.
use Rattle.std.specs.Prelude.{List, [], ◌∷◌, ◌++◌, ℕ, zero, suc, ◌*◌, ◌/◌, length, get_or, take, drop, ℤ, pos}

-- rule 1.11: one side of n frames of so many channels: in each frame the number at place s
unfoldable pub side : (channels s n : ℕ) → List ℤ → List ℤ
side c s zero xs = []
side c s (suc n) xs = get_or xs s (pos 0) ∷ side c s n (drop c xs)

-- rule 1.11: one side of a block: of all its frames
abbrev pub side_of : (channels s : ℕ) → List ℤ → List ℤ
side_of c s xs = side c s (length xs / c) xs

-- rule 1.11: a frame, f s the number of side s
unfoldable pub frame : (channels : ℕ) → (ℕ → ℤ) → List ℤ
frame zero f = []
frame (suc c) f = f 0 ∷ frame c (λ s. f (suc s))

-- rule 1.11: n frames, `sides s` the numbers of side s
unfoldable pub woven : (channels n : ℕ) → (ℕ → List ℤ) → List ℤ
woven c zero sides = []
woven c (suc n) sides = frame c (λ s. get_or (sides s) 0 (pos 0)) ++ woven c n (λ s. drop 1 (sides s))

-- rule 5.2: the places of all sides, the left ones first
unfoldable pub behind : (channels : ℕ) → (ℕ → List ℤ) → List ℤ
behind zero places = []
behind (suc c) places = places 0 ++ behind c (λ s. places (suc s))

-- rule 5.2: and the places of side s among them, where each side has k
abbrev pub places_of : (k s : ℕ) → List ℤ → List ℤ
places_of k s places = take k (drop (s * k) places)
