-- The laws of sides: what a side is, place by place; sides put together; sides one behind the other. Assumes nothing.
use mathlib.Core.Path.{◌≡◌, refl, sym, ap, ap₂, ◌∙◌}
use mathlib.Core.List.{List, [], ◌∷◌, ◌++◌, append-nil}
use Prim.Native.Nat.{ℕ, zero, suc, ◌+◌, ◌-◌, ◌*◌, ◌/◌, ◌%◌, ◌≤◌, ◌<◌}
use native.Mathlib.Nat.{mul-suc, mul-zero, zero-mul, one-mul, zero-add, suc-add, suc-mul, mul-add, mul-le-mul_left, mul-le-mul_right, div-add-mod, mod-lt, div-one, mul_comm, mul-div_cancel}
use native.Mathlib.Decide.{dec_lt}
use native.Mathlib.Omega.{arith}
use borrow.Rule.Slice.PartMut.{mid_of, post_of, put_mid, put_same}
use lib.ListN.{length, get_or, take, drop, length-append, length-drop, get_or-append}
use lib.Seq.{ext_get_or, get_or-take, get_or-drop, get_or-append-add, length-take-le, take_all, drop-drop, drop-append-add, take_at, drop_at}
use lib.IntN.{ℤ, pos}
use Rattle.frames.specs.Frames.{side, side_of, frame, woven, behind, places_of}

-- ---- places of frames

one_add : (i : ℕ) → 1 + i ≡ suc i
one_add i = omega arith

-- the place of side s in frame i
next_place : (c i s : ℕ) → c + (c * i + s) ≡ c * suc i + s
next_place c i s = omega (arith, mul-suc c i)

-- the frame behind
next-frame : (c i : ℕ) → c * suc i ≡ c + c * i
next-frame c i = omega (arith, mul-suc c i)

-- a frame below n ends before c·n
pub place_inside : (c i s n : ℕ) → i < n → s < c → c * i + s < c * n
place_inside c i s n h l = omega (arith, mul-suc c i, mul-le-mul_left {m = suc i} {n = n} c h)

-- .. and one from n on does not
pub frame_inside : (c i s n : ℕ) → c * i + s < c * n → i < n
frame_inside c i s n h = by (dec_lt i n)
  where
    by : Dec (i < n) → i < n
    by (yes l) = l
    by (no l) = absurd (omega (arith, mul-le-mul_left {m = n} {n = i} c (omega arith)))

-- numbers of which nothing is left over
pub whole_frames_lem : (n c : ℕ) {f : ℕ} → n % c ≡ 0 → f ≡ n / c → n ≡ c * f
whole_frames_lem n c e is = omega (arith, div-add-mod n c, e, ap (λ (k : ℕ). c * k) is)

-- a place of one side is none of another
pub other_side : (c i j s t : ℕ) → s < c → t < c → (t ≡ s → ⊥) → c * j + t ≡ c * i + s → ⊥
other_side c i j s t ls lt n e = by (dec_lt i j) (dec_lt j i)
  where
    by : Dec (i < j) → Dec (j < i) → ⊥
    by (yes h) d = omega (arith, mul-suc c i, mul-le-mul_left {m = suc i} {n = j} c h)
    by (no h) (yes l) = omega (arith, mul-suc c j, mul-le-mul_left {m = suc j} {n = i} c l)
    by (no h) (no l) = let same : i ≡ j = omega arith in n (omega (arith, ap (λ (k : ℕ). c * k) same))

-- .. and each frame has its own
pub other_frame : (c i j s : ℕ) → s < c → j < i → c * j + s ≡ c * i + s → ⊥
other_frame c i j s l h e = omega (arith, mul-suc c j, mul-le-mul_left {m = suc j} {n = i} c h)

-- ---- one side

pub side-length : (c s n : ℕ) (xs : List ℤ) → length (side c s n xs) ≡ n
unfolding side
side-length c s zero xs = refl
side-length c s (suc n) xs = ap suc (side-length c s n (drop c xs))

pub side_at : (c s n i : ℕ) (xs : List ℤ) → i < n → get_or (side c s n xs) i (pos 0) ≡ get_or xs (c * i + s) (pos 0)
unfolding side
side_at c s zero i xs h = absurd (omega arith)
side_at c s (suc n) zero xs h = ap (λ (k : ℕ). get_or xs k (pos 0)) (omega (arith, mul-zero c))
side_at c s (suc n) (suc i) xs h =
    side_at c s n i (drop c xs) (omega arith) ∙ get_or-drop c xs (c * i + s) (pos 0) ∙ ap (λ (k : ℕ). get_or xs k (pos 0)) (next_place c i s)

-- frame i of n, and those behind it
pub side-from : (c s n i : ℕ) (xs : List ℤ) → i < n → side c s (n - i) (drop (c * i) xs) ≡ get_or xs (c * i + s) (pos 0) ∷ side c s (n - suc i) (drop (c * suc i) xs)
unfolding side
side-from c s n i xs h =
    let more : n - i ≡ suc (n - suc i) = omega arith in
    ap (λ (k : ℕ). side c s k (drop (c * i) xs)) more ∙
    ap₂ (λ (z : ℤ) (l : List ℤ). z ∷ side c s (n - suc i) l) (get_or-drop (c * i) xs s (pos 0)) (drop-drop c (c * i) xs ∙ ap (λ (k : ℕ). drop k xs) (sym (mul-suc c i)))

-- the first m frames, and the others
pub side-add : (c s m n : ℕ) (xs : List ℤ) → side c s (m + n) xs ≡ side c s m xs ++ side c s n (drop (c * m) xs)
unfolding side
side-add c s zero n xs = rw (zero-add n, mul-zero c) refl
side-add c s (suc m) n xs =
    ap (λ (k : ℕ). side c s k xs) (suc-add m n) ∙
    ap (λ (l : List ℤ). get_or xs s (pos 0) ∷ l)
    (side-add c s m n (drop c xs) ∙
    ap (λ (l : List ℤ). side c s m (drop c xs) ++ side c s n l) (drop-drop (c * m) c xs ∙ ap (λ (k : ℕ). drop k xs) (sym (next-frame c m))))

-- only the places of the frames count
pub side_front : (c s n : ℕ) (xs ys : List ℤ) → s < c → ((k : ℕ) → k < c * n → get_or xs k (pos 0) ≡ get_or ys k (pos 0)) → side c s n xs ≡ side c s n ys
side_front c s n xs ys l e =
    ext_get_or (pos 0) (side c s n xs) (side c s n ys) (side-length c s n xs ∙ sym (side-length c s n ys))
    (λ i h.
    let inside : i < n = omega (arith, side-length c s n xs) in
    side_at c s n i xs inside ∙ e (c * i + s) (place_inside c i s n inside l) ∙ sym (side_at c s n i ys inside))

pub side-append : (c s m n : ℕ) (xs ys : List ℤ) → s < c → length xs ≡ c * m → side c s (m + n) (xs ++ ys) ≡ side c s m xs ++ side c s n ys
side-append c s m n xs ys l e =
    side-add c s m n (xs ++ ys) ∙
    ap₂ ◌++◌ (side_front c s m (xs ++ ys) xs l (λ k h. get_or-append xs ys (pos 0) k (omega arith))) (ap (side c s n) (drop_at xs ys (c * m) e))

-- a part of whole frames put behind i frames
pub put-side : (c s i n k : ℕ) (xs ys : List ℤ) → s < c → c * i ≤ length xs → length ys ≡ c * n → side c s (i + n) (put_mid (c * i) k xs ys) ≡ side c s i xs ++ side c s n ys
put-side c s i n k xs ys l h e =
    let rest = post_of (c * i) k xs in
    side-append c s i n (take (c * i) xs) (ys ++ rest) l (length-take-le (c * i) xs h) ∙
    ap₂ ◌++◌ (side_front c s i (take (c * i) xs) xs l (λ j q. get_or-take (c * i) xs j (pos 0) q)) (side_front c s n (ys ++ rest) ys l (λ j q. get_or-append ys rest (pos 0) j (omega arith)))

-- a part with the same side as before leaves that side as it is
pub put_alike : (c s i n m : ℕ) (xs ys : List ℤ) → s < c → c * (i + n) ≤ length xs → length ys ≡ c * n → side c s n ys ≡ side c s n (mid_of (c * i) (c * n) xs) →
    side c s (i + (n + m)) (put_mid (c * i) (c * n) xs ys) ≡ side c s (i + (n + m)) xs
put_alike c s i n m xs ys l h e same =
    put ys e ∙ ap (λ (z : List ℤ). side c s i (take (c * i) xs) ++ (z ++ side c s m rest)) same ∙ sym (put old old_length) ∙
    ap (side c s (i + (n + m))) (put_same (c * i) (c * n) xs)
  where
    rest : List ℤ
    rest = post_of (c * i) (c * n) xs

    old : List ℤ
    old = mid_of (c * i) (c * n) xs

    old_length : length old ≡ c * n
    old_length = length-take-le (c * n) (drop (c * i) xs) (rw (length-drop (c * i) xs) (omega (arith, mul-add c i n)))

    put : (zs : List ℤ) → length zs ≡ c * n → side c s (i + (n + m)) (put_mid (c * i) (c * n) xs zs) ≡ side c s i (take (c * i) xs) ++ (side c s n zs ++ side c s m rest)
    put zs q =
        side-append c s i (n + m) (take (c * i) xs) (zs ++ rest) l (length-take-le (c * i) xs (omega (arith, mul-add c i n))) ∙
        ap (λ (z : List ℤ). side c s i (take (c * i) xs) ++ z) (side-append c s n m zs rest l q)

-- with one channel the only side is the block
pub only_side : (xs : List ℤ) → side 1 0 (length xs) xs ≡ xs
unfolding side
only_side [] = refl
only_side (x ∷ xs) = ap (λ (l : List ℤ). x ∷ l) (only_side xs)

-- .. so of one channel any side is the block
pub side_alone : (c s n : ℕ) (xs : List ℤ) → c ≡ 1 → s < c → length xs ≡ c * n → side c s n xs ≡ xs
side_alone c s n xs e h l =
    let first : s ≡ 0 = omega (arith, e) in
    let all : length xs ≡ n = l ∙ ap (λ (k : ℕ). k * n) e ∙ one-mul n in
    ap₂ (λ (i j : ℕ). side i j n xs) e first ∙ ap (λ (k : ℕ). side 1 0 k xs) (sym all) ∙ only_side xs

pub one_channel : (xs : List ℤ) → side_of 1 0 xs ≡ xs
one_channel xs = ap (λ (n : ℕ). side 1 0 n xs) (div-one (length xs)) ∙ only_side xs

-- ---- sides put together

-- two blocks with the same sides are the same
pub sides_alike : (c n : ℕ) (xs ys : List ℤ) → 0 < c → length xs ≡ c * n → length ys ≡ c * n → ((s : ℕ) → s < c → side c s n xs ≡ side c s n ys) → xs ≡ ys
sides_alike c n xs ys some lx ly e =
    ext_get_or (pos 0) xs ys (lx ∙ sym ly)
    (λ k h.
    let i = k / c in
    let s = k % c in
    let place : c * i + s ≡ k = div-add-mod k c in
    let below : s < c = mod-lt k some in
    let inside : i < n = frame_inside c i s n (omega (arith, place, lx)) in
    ap (λ (j : ℕ). get_or xs j (pos 0)) (sym place) ∙ sym (side_at c s n i xs inside) ∙ ap (λ (l : List ℤ). get_or l i (pos 0)) (e s below) ∙ side_at c s n i ys inside ∙
    ap (λ (j : ℕ). get_or ys j (pos 0)) place)

frame-length : (c : ℕ) (f : ℕ → ℤ) → length (frame c f) ≡ c
unfolding frame
frame-length zero f = refl
frame-length (suc c) f = ap suc (frame-length c (λ s. f (suc s)))

frame_at : (c s : ℕ) (f : ℕ → ℤ) → s < c → get_or (frame c f) s (pos 0) ≡ f s
unfolding frame
frame_at zero s f h = absurd (omega arith)
frame_at (suc c) zero f h = refl
frame_at (suc c) (suc s) f h = frame_at c s (λ i. f (suc i)) (omega arith)

pub woven-length : (c n : ℕ) (sides : ℕ → List ℤ) → length (woven c n sides) ≡ c * n
unfolding woven
woven-length c zero sides = sym (mul-zero c)
woven-length c (suc n) sides =
    let f = frame c (λ s. get_or (sides s) 0 (pos 0)) in
    let rest = woven c n (λ s. drop 1 (sides s)) in
    length-append f rest ∙ ap₂ ◌+◌ (frame-length c (λ s. get_or (sides s) 0 (pos 0))) (woven-length c n (λ s. drop 1 (sides s))) ∙ omega (arith, mul-suc c n)

woven_at : (c n s i : ℕ) (sides : ℕ → List ℤ) → i < n → s < c → get_or (woven c n sides) (c * i + s) (pos 0) ≡ get_or (sides s) i (pos 0)
unfolding woven
woven_at c zero s i sides h l = absurd (omega arith)
woven_at c (suc n) s zero sides h l =
    let f : ℕ → ℤ = λ s. get_or (sides s) 0 (pos 0) in
    ap (λ (k : ℕ). get_or (frame c f ++ woven c n (λ s. drop 1 (sides s))) k (pos 0)) (omega (arith, mul-zero c)) ∙
    get_or-append (frame c f) (woven c n (λ s. drop 1 (sides s))) (pos 0) s (omega (arith, frame-length c f)) ∙ frame_at c s f l
woven_at c (suc n) s (suc i) sides h l =
    let f : ℕ → ℤ = λ s. get_or (sides s) 0 (pos 0) in
    let rest = woven c n (λ s. drop 1 (sides s)) in
    ap (λ (k : ℕ). get_or (frame c f ++ rest) k (pos 0)) (sym (ap (λ (k : ℕ). k + (c * i + s)) (frame-length c f) ∙ next_place c i s)) ∙
    get_or-append-add (frame c f) rest (c * i + s) (pos 0) ∙ woven_at c n s i (λ s. drop 1 (sides s)) (omega arith) l ∙ get_or-drop 1 (sides s) i (pos 0) ∙ ap (λ (k : ℕ). get_or (sides s) k (pos 0)) (one_add i)

-- each side is found again
pub side-woven : (c n s : ℕ) (sides : ℕ → List ℤ) → s < c → length (sides s) ≡ n → side c s n (woven c n sides) ≡ sides s
side-woven c n s sides l e =
    ext_get_or (pos 0) (side c s n (woven c n sides)) (sides s) (side-length c s n (woven c n sides) ∙ sym e)
    (λ i h.
    let inside : i < n = omega (arith, side-length c s n (woven c n sides)) in
    side_at c s n i (woven c n sides) inside ∙ woven_at c n s i sides inside l)

-- .. so a block with those sides is woven of them
pub woven_is : (c n : ℕ) (sides : ℕ → List ℤ) (xs : List ℤ) → 0 < c → length xs ≡ c * n → ((s : ℕ) → s < c → length (sides s) ≡ n) →
    ((s : ℕ) → s < c → side c s n xs ≡ sides s) → xs ≡ woven c n sides
woven_is c n sides xs some lx ls e =
    sides_alike c n xs (woven c n sides) some lx (woven-length c n sides) (λ s h. e s h ∙ sym (side-woven c n s sides h (ls s h)))

-- with one channel it is the only side
pub woven_one : (n : ℕ) (sides : ℕ → List ℤ) → length (sides 0) ≡ n → woven 1 n sides ≡ sides 0
woven_one n sides e =
    let w = woven 1 n sides in
    sym (only_side w) ∙ ap (λ (k : ℕ). side 1 0 k w) (woven-length 1 n sides ∙ one-mul n) ∙ side-woven 1 n 0 sides (omega arith) e

-- ---- sides of blocks of whole frames

pub frames_back : (c n : ℕ) {k : ℕ} → 0 < c → k ≡ c * n → k / c ≡ n
frames_back c n some e = ap (λ (i : ℕ). i / c) (e ∙ mul_comm c n) ∙ mul-div_cancel n some

-- one side of a block of n frames
pub side_of_lem : (c s n : ℕ) (xs : List ℤ) → 0 < c → length xs ≡ c * n → side_of c s xs ≡ side c s n xs
side_of_lem c s n xs some e = ap (λ (k : ℕ). side c s k xs) (frames_back c n some e)

pub side_of-append : (c s m n : ℕ) (xs ys : List ℤ) → s < c → length xs ≡ c * m → length ys ≡ c * n → side_of c s (xs ++ ys) ≡ side_of c s xs ++ side_of c s ys
side_of-append c s m n xs ys l ex ey =
    let some : 0 < c = omega arith in
    let both : length (xs ++ ys) ≡ c * (m + n) = length-append xs ys ∙ ap₂ ◌+◌ ex ey ∙ sym (mul-add c m n) in
    side_of_lem c s (m + n) (xs ++ ys) some both ∙ side-append c s m n xs ys l ex ∙ sym (ap₂ ◌++◌ (side_of_lem c s m xs some ex) (side_of_lem c s n ys some ey))

-- ---- sides one behind the other

pub behind_one : (c : ℕ) (places : ℕ → List ℤ) → c ≡ 1 → behind c places ≡ places 0
unfolding behind
behind_one c places e = ap (λ (k : ℕ). behind k places) e ∙ append-nil (places 0)

pub behind_two : (c : ℕ) (places : ℕ → List ℤ) → c ≡ 2 → behind c places ≡ places 0 ++ places 1
unfolding behind
behind_two c places e = ap (λ (k : ℕ). behind k places) e ∙ ap (λ (l : List ℤ). places 0 ++ l) (append-nil (places 1))

-- the left side's come first, and of two sides the right one's are the rest
pub places_left : (k : ℕ) (places : List ℤ) → places_of k 0 places ≡ take k places
places_left k places = ap (λ (n : ℕ). take k (drop n places)) (zero-mul k)

pub places_right : (k : ℕ) (places : List ℤ) → length places ≡ 2 * k → places_of k 1 places ≡ drop k places
places_right k places e = ap (λ (n : ℕ). take k (drop n places)) (one-mul k) ∙ take_all k (drop k places) (rw (length-drop k places) (omega arith))

-- each side has its places
pub places_length : (c k s : ℕ) (places : List ℤ) → length places ≡ c * k → s < c → length (places_of k s places) ≡ k
places_length c k s places e h =
    let more : suc s * k ≤ c * k = mul-le-mul_right {m = suc s} {n = c} k h in
    length-take-le k (drop (s * k) places) (rw (length-drop (s * k) places) (omega (arith, more, suc-mul s k)))

pub behind-length : (c k : ℕ) (places : ℕ → List ℤ) → ((s : ℕ) → s < c → length (places s) ≡ k) → length (behind c places) ≡ c * k
unfolding behind
behind-length zero k places e = omega arith
behind-length (suc c) k places e =
    length-append (places 0) (behind c (λ s. places (suc s))) ∙
    ap₂ ◌+◌ (e 0 (omega arith)) (behind-length c k (λ s. places (suc s)) (λ s h. e (suc s) (omega arith))) ∙ sym (suc-mul c k ∙ omega arith)

pub places_behind : (c k s : ℕ) (places : ℕ → List ℤ) → ((s : ℕ) → s < c → length (places s) ≡ k) → s < c → places_of k s (behind c places) ≡ places s
unfolding behind
places_behind zero k s places e h = absurd (omega arith)
places_behind (suc c) k zero places e h = rw (zero-mul k) (take_at (places 0) (behind c (λ s. places (suc s))) k (e 0 h))
places_behind (suc c) k (suc s) places e h =
    let rest = behind c (λ s. places (suc s)) in
    let further : suc s * k ≡ length (places 0) + s * k = omega (arith, suc-mul s k, e 0 (omega arith)) in
    ap (take k)
    (ap (λ (n : ℕ). drop n (places 0 ++ rest)) further ∙ drop-append-add (places 0) rest (s * k)) ∙
    places_behind c k s (λ s. places (suc s)) (λ s l. e (suc s) (omega arith)) (omega arith)
