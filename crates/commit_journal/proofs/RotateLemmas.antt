-- What a crash leaves of the file that doesn't count, at each moment of a rotation.
use Rattle.std.proofs.Common.{◌≡◌, ◌≢◌, ◌≤◌, ◌<◌, ◌⊎◌, inl, inr, ⊎_elim, ℕ, ◌+◌, ◌-◌, ◌%◌, ◌^◌, ◌==◌, Bool, true, false, cond, List, [], ◌∷◌, ◌++◌, length, get_or, refl, sym, ◌∙◌, ap, subst, arith}
use Rattle.std.proofs.lemmas.Bool.{cases_eq}
use Rattle.std.proofs.lemmas.List.{append-nil}
use Rattle.std.specs.Int.{w64, from_be_bytes}
use Rattle.std.specs.List.{All}
use Rattle.disk_model.specs.Disk.{DiskGoesOn, Write, Sync, History, DiskState, put, during, written, settled, state_of, contents_of, IsImage, Leaves, Wrote, Synced}
use Rattle.disk_model.proofs.Images.{calm_from, quiet_synced, put_other, put_same, put_no_shorter, image_byte, image_inside, settled_image, after_write, synced_within, contents_image, started, goes_on_write, goes_on_sync, wrote_done, synced_done}
use Rattle.record_code.specs.Record.{Record, IsSound, bodies, gated}
use Rattle.record_code.specs.Reading.{byte, slice, Agree, Spells, first_gate}
use Rattle.record_code.proofs.Slices.{slice_is, slice_same, slice_byte, slice_back}
use Rattle.record_code.proofs.BodiesLemmas.{bodies_there}
use Rattle.commit_journal.specs.Pair.{file_gate, generation, IsQuiet}
use Rattle.commit_journal.specs.Rotation.{IsReplacement, IsReplacing, IsShut, IsStaged, IsImageOf, closing}

abbrev zero_byte : List ℕ
zero_byte = 0 ∷ []

abbrev one_byte : List ℕ
one_byte = 1 ∷ []

lt_or_ge : (m n : ℕ) → (m < n) ⊎ (n ≤ m)
lt_or_ge m n = grind arith

-- a file with the records of an image after an open gate
pub image_spells : (d : List ℕ) (bytes : List ℕ) (image : List Record) → All IsSound image → 0 < length image → bytes ≡ gated (bodies image)
    → slice d first_gate (length bytes) ≡ bytes → first_gate + length bytes ≤ length d → Spells d image (16 + length bytes)
image_spells d bytes [] sound some is there long = absurd (omega arith)
image_spells d bytes (r ∷ rs) sound some is there long =
    let rest : List ℕ = bodies (r ∷ rs) in
    let size : length bytes ≡ 1 + length rest = omega (arith, ap length is) in
    let whole : slice d first_gate (1 + length rest) ≡ one_byte ++ rest = ap (λ (n : ℕ). slice d first_gate n) (sym size) ∙ there ∙ is in
    let opened : byte d 17 ≡ 1 = slice_byte d first_gate (1 + length rest) (one_byte ++ rest) 0 whole (omega arith) in
    let row = bodies_there d first_gate r rs sound opened (slice_back d first_gate 1 (length rest) one_byte rest refl whole) in
    let place : first_gate + length rest ≡ 16 + length bytes = omega (arith, size) in
    record {
      reads = subst (λ (n : ℕ). Rattle.record_code.specs.Reading.Reads d first_gate (r ∷ rs) n) place row.reads;
      shut = λ one. absurd (let z : 0 ≡ 1 = sym row.shut ∙ ap (λ (n : ℕ). byte d n) place ∙ one in omega (arith, z));
      inside = omega (arith, long);
    }

module _ (o : List ℕ) (number : ℕ) (image : List Record) (next : ℕ) where
  turning_same : first_gate ≤ length o → IsReplacing o number image next o
  turning_same long = record { long = long; begins = λ k from to. refl; either = inr (inl (λ k from to. refl)) }

  -- at rest
  pub quiet_turning : (h : History) → IsQuiet h → contents_of h ≡ o → first_gate ≤ length o → (d : List ℕ) → IsImage (state_of h) d → IsReplacing o number image next d
  quiet_turning h quiet holds long d im = subst (λ (l : List ℕ). IsReplacing o number image next l) (sym (settled_image (state_of h) d quiet im ∙ holds)) (turning_same long)

  -- a file that wasn't called
  pub turning_stays : (h h' : History) → h' ≡ h → IsQuiet h → contents_of h ≡ o → first_gate ≤ length o → Leaves h h' (IsReplacing o number image next)
  turning_stays h h' same quiet holds long = subst (λ (x : History). Leaves h x (IsReplacing o number image next)) (sym same) (started h (IsReplacing o number image next) (quiet_turning h quiet holds long))

  -- the gate is closed
  module _ (h : History) (quiet : IsQuiet h) (holds : contents_of h ≡ o) (long : first_gate ≤ length o) (opened : file_gate o ≡ 1) where
    size : length (contents_of h) ≡ length o
    size = ap length holds

    torn_shut : (d : List ℕ) → IsImage (during (state_of h) (Write 16 zero_byte)) d → IsReplacing o number image next d
    torn_shut d im = record {
      long = omega (arith, im.long, quiet_synced h quiet, size, long);
      begins = λ k from to. same k (omega (arith, to));
      either = ⊎_elim (λ one. inr (inl (header one))) (λ shut. inl shut) (cases_eq (byte d 16) 1);
    }
      where
        free : (k : ℕ) → k < 16 → (during (state_of h) (Write 16 zero_byte)).pending k ≡ false
        free k lt = calm_from (state_of h) 16 1 k (quiet k) (omega (arith, size, long, lt)) (inl lt)

        same : (k : ℕ) → k < 16 → byte o k ≡ byte d k
        same k lt = sym (image_byte (during (state_of h) (Write 16 zero_byte)) d k 0 im (free k lt) ∙ ap (λ (l : List ℕ). get_or l k 0) holds)

        gate : byte d 16 ≡ 1 → (k : ℕ) → k ≡ 16 → byte o k ≡ byte d k
        gate one k is = ap (λ (n : ℕ). byte o n) is ∙ opened ∙ sym one ∙ ap (λ (n : ℕ). byte d n) (sym is)

        header : byte d 16 ≡ 1 → Agree o d 0 first_gate
        header one k from to = ⊎_elim (λ lt. same k lt) (λ ge. gate one k (omega (arith, ge, to))) (lt_or_ge k 16)

    module _ (h1 : History) (done1 : Type 0) (wrote1 : Wrote h 16 zero_byte done1 h1) where
      pub shut_first : Leaves h h1 (IsReplacing o number image next)
      shut_first = goes_on_write h h h1 16 zero_byte done1 (IsReplacing o number image next) (omega (arith, size, long)) (started h (IsReplacing o number image next) (quiet_turning h quiet holds long)) wrote1 torn_shut (quiet_turning h quiet holds long)

      module _ (is1 : done1) (h2 : History) (done2 : Type 0) (synced2 : Synced h1 done2 h2) where
        image1 : (d : List ℕ) → IsImage (state_of h1) d → IsReplacing o number image next d
        image1 d im = torn_shut d (after_write (state_of h) 16 zero_byte d (omega (arith, size, long)) (subst (λ (s : DiskState). IsImage s d) (wrote_done h h1 16 zero_byte done1 wrote1 is1) im))

        pub shut_second : Leaves h h2 (IsReplacing o number image next)
        shut_second = goes_on_sync h h1 h2 done2 (IsReplacing o number image next) shut_first synced2 image1

        pub shut_done : done2 → IsShut o h2
        shut_done is2 = record {
          quiet = λ k. ap (λ (s : DiskState). s.pending k) state2;
          long = omega (arith, ap length holds2, put_no_shorter 16 zero_byte (contents_of h), size, long);
          begins = λ k from to. ap (λ (l : List ℕ). get_or l k 0) (sym holds) ∙ sym (put_other 16 zero_byte (contents_of h) k 0 (omega (arith, size, long)) (inl (omega (arith, to)))) ∙ ap (λ (l : List ℕ). get_or l k 0) (sym holds2);
          shut = λ one. absurd (let z : 0 ≡ 1 = sym (put_same 16 zero_byte (contents_of h) 16 0 (omega (arith, size, long)) (omega arith) (omega arith)) ∙ ap (λ (l : List ℕ). get_or l 16 0) (sym holds2) ∙ one in omega (arith, z));
        }
          where
            state2 : state_of h2 ≡ settled (written (state_of h) 16 zero_byte) true
            state2 = synced_done h1 h2 done2 synced2 is2 ∙ ap (λ (s : DiskState). settled s true) (wrote_done h h1 16 zero_byte done1 wrote1 is1)

            holds2 : contents_of h2 ≡ put 16 zero_byte (contents_of h)
            holds2 = ap (λ (s : DiskState). s.contents) state2

  -- what lies before the generation and the gate stay while the rest is written
  record Still (s : DiskState) : Type 0 where
    front : (k : ℕ) → k < 8 → s.pending k ≡ false
    gate : s.pending 16 ≡ false
    same : (k : ℕ) → k < 8 → byte o k ≡ byte s.contents k
    shut : byte s.contents 16 ≢ 1
    inside : 16 < length s.contents

  still_image : (s : DiskState) → Still s → (d : List ℕ) → IsImage s d → IsReplacing o number image next d
  still_image s st d im = record {
    long = omega (arith, image_inside s d 16 im st.gate st.inside);
    begins = λ k from to. st.same k to ∙ sym (image_byte s d k 0 im (st.front k to));
    either = inl (λ one. st.shut (sym (image_byte s d 16 0 im st.gate) ∙ one));
  }

  still_during : (s : DiskState) → Still s → (at : ℕ) (bytes : List ℕ) → 8 ≤ at → (at + length bytes ≤ 16) ⊎ (17 ≤ at) → Still (during s (Write at bytes))
  still_during s st at bytes from apart = record {
    front = λ k lt. calm_from s at (length bytes) k (st.front k lt) (omega (arith, st.inside, lt)) (inl (omega (arith, from, lt)));
    gate = calm_from s at (length bytes) 16 st.gate st.inside (⊎_elim (λ low. inr low) (λ high. inl (omega (arith, high))) apart);
    same = st.same;
    shut = st.shut;
    inside = st.inside;
  }

  still_written : (s : DiskState) → Still s → (at : ℕ) (bytes : List ℕ) → 8 ≤ at → (at + length bytes ≤ 16) ⊎ (17 ≤ at) → at ≤ length s.contents → Still (written s at bytes)
  still_written s st at bytes from apart le =
      let under = still_during s st at bytes from apart in
      record {
        front = under.front;
        gate = under.gate;
        same = λ k lt. st.same k lt ∙ sym (put_other at bytes s.contents k 0 le (inl (omega (arith, from, lt))));
        shut = λ one. st.shut (sym (put_other at bytes s.contents 16 0 le (⊎_elim (λ low. inr low) (λ high. inl (omega (arith, high))) apart)) ∙ one);
        inside = omega (arith, st.inside, put_no_shorter at bytes s.contents);
      }

  still_now : (h : History) → IsShut o h → Still (state_of h)
  still_now h is = record {
    front = λ k lt. is.quiet k;
    gate = is.quiet 16;
    same = λ k lt. is.begins k (omega arith) lt;
    shut = is.shut;
    inside = omega (arith, is.long);
  }

  -- generation and records are written
  module _ (h : History) (is : IsShut o h) (gen bytes : List ℕ) (eight : length gen ≡ 8) where
    pub shut_turning : (d : List ℕ) → IsImage (state_of h) d → IsReplacing o number image next d
    shut_turning d im = still_image (state_of h) (still_now h is) d im

    low : (8 + length gen ≤ 16) ⊎ (17 ≤ 8)
    low = inl (omega (arith, eight))

    high : (17 + length bytes ≤ 16) ⊎ (17 ≤ 17)
    high = inr (omega arith)

    module _ (h1 : History) (done1 : Type 0) (wrote1 : Wrote h 8 gen done1 h1) where
      pub stage_first : Leaves h h1 (IsReplacing o number image next)
      stage_first = goes_on_write h h h1 8 gen done1 (IsReplacing o number image next) (omega (arith, is.long)) (started h (IsReplacing o number image next) shut_turning) wrote1
          (still_image (during (state_of h) (Write 8 gen)) (still_during (state_of h) (still_now h is) 8 gen (omega arith) low)) shut_turning

      module _ (is1 : done1) where
        still1 : Still (state_of h1)
        still1 = subst Still (sym (wrote_done h h1 8 gen done1 wrote1 is1)) (still_written (state_of h) (still_now h is) 8 gen (omega arith) low (omega (arith, is.long)))

        pub at_gate : 17 ≤ length (contents_of h1)
        at_gate = omega (arith, still1.inside)

        module _ (h2 : History) (done2 : Type 0) (wrote2 : Wrote h1 17 bytes done2 h2) where
          pub stage_second : Leaves h h2 (IsReplacing o number image next)
          stage_second = goes_on_write h h1 h2 17 bytes done2 (IsReplacing o number image next) at_gate stage_first wrote2
              (still_image (during (state_of h1) (Write 17 bytes)) (still_during (state_of h1) still1 17 bytes (omega arith) high)) (still_image (state_of h1) still1)

          module _ (is2 : done2) (h3 : History) (done3 : Type 0) (synced3 : Synced h2 done3 h3) where
            still2 : Still (state_of h2)
            still2 = subst Still (sym (wrote_done h1 h2 17 bytes done2 wrote2 is2)) (still_written (state_of h1) still1 17 bytes (omega arith) high at_gate)

            pub stage_third : Leaves h h3 (IsReplacing o number image next)
            stage_third = goes_on_sync h h2 h3 done3 (IsReplacing o number image next) stage_second synced3 (still_image (state_of h2) still2)

            pub stage_done : done3 → IsStaged o gen bytes h3
            stage_done is3 = record {
              shut = record {
                quiet = λ k. ap (λ (s : DiskState). s.pending k) state3;
                long = omega (arith, ap length holds3, still2.inside);
                begins = λ k from to. still2.same k to ∙ ap (λ (l : List ℕ). get_or l k 0) (sym holds3);
                shut = λ one. still2.shut (ap (λ (l : List ℕ). get_or l 16 0) (sym holds3) ∙ one);
              };
              number = slice_is (contents_of h3) 8 8 gen eight in_gen;
              there = slice_is (contents_of h3) 17 (length bytes) bytes refl in_bytes;
              whole = omega (arith, ap length holds, Rattle.disk_model.proofs.States.length-put 17 bytes (contents_of h1) at_gate);
            }
              where
                state3 : state_of h3 ≡ settled (state_of h2) true
                state3 = synced_done h2 h3 done3 synced3 is3

                holds3 : contents_of h3 ≡ contents_of h2
                holds3 = ap (λ (s : DiskState). s.contents) state3

                holds2 : contents_of h2 ≡ put 17 bytes (contents_of h1)
                holds2 = ap (λ (s : DiskState). s.contents) (wrote_done h1 h2 17 bytes done2 wrote2 is2)

                holds1 : contents_of h1 ≡ put 8 gen (contents_of h)
                holds1 = ap (λ (s : DiskState). s.contents) (wrote_done h h1 8 gen done1 wrote1 is1)

                holds : contents_of h3 ≡ put 17 bytes (contents_of h1)
                holds = holds3 ∙ holds2

                in_gen : (k : ℕ) → k < 8 → byte (contents_of h3) (8 + k) ≡ get_or gen k 0
                in_gen k lt =
                    let back : 8 + k - 8 ≡ k = omega arith in
                    ap (λ (l : List ℕ). get_or l (8 + k) 0) holds
                    ∙ put_other 17 bytes (contents_of h1) (8 + k) 0 at_gate (inl (omega (arith, lt)))
                    ∙ ap (λ (l : List ℕ). get_or l (8 + k) 0) holds1
                    ∙ put_same 8 gen (contents_of h) (8 + k) 0 (omega (arith, is.long)) (omega arith) (omega (arith, eight, lt))
                    ∙ ap (λ (j : ℕ). get_or gen j 0) back

                in_bytes : (k : ℕ) → k < length bytes → byte (contents_of h3) (17 + k) ≡ get_or bytes k 0
                in_bytes k lt =
                    let back : 17 + k - 17 ≡ k = omega arith in
                    ap (λ (l : List ℕ). get_or l (17 + k) 0) holds
                    ∙ put_same 17 bytes (contents_of h1) (17 + k) 0 at_gate (omega arith) (omega (arith, lt))
                    ∙ ap (λ (j : ℕ). get_or bytes j 0) back

  -- the gate is opened
  module _ (h : History) (gen bytes : List ℕ) (is : IsStaged o gen bytes h) (of : IsImageOf number image next gen bytes) where
    staged_turning : (d : List ℕ) → IsImage (state_of h) d → IsReplacing o number image next d
    staged_turning d im = still_image (state_of h) (still_now h is.shut) d im

    some : 1 ≤ length bytes
    some = omega (arith, ap length of.bytes_are)

    free : (k : ℕ) → (k < 16) ⊎ (17 ≤ k) → k < length (contents_of h) → (during (state_of h) (Write 16 one_byte)).pending k ≡ false
    free k outside lt = calm_from (state_of h) 16 1 k (is.shut.quiet k) lt outside

    module _ (d : List ℕ) (im : IsImage (during (state_of h) (Write 16 one_byte)) d) where
      same : (k : ℕ) → (k < 16) ⊎ (17 ≤ k) → k < length (contents_of h) → byte (contents_of h) k ≡ byte d k
      same k outside lt = sym (image_byte (during (state_of h) (Write 16 one_byte)) d k 0 im (free k outside lt))

      d_long : first_gate + length bytes ≤ length d
      d_long =
          let last : ℕ = 16 + length bytes in
          omega (arith, image_inside (during (state_of h) (Write 16 one_byte)) d last im (free last (inr (omega (arith, some))) (omega (arith, is.whole))) (omega (arith, is.whole)))

      number_is : generation d ≡ (number + 1) % 2 ^ 64
      unfolding generation
      number_is = ap (from_be_bytes w64) (sym (slice_same (contents_of h) d 8 8 (λ k from to. same k (inl (omega (arith, to))) (omega (arith, is.shut.long, to)))) ∙ is.number) ∙ of.number_is

      there : slice d first_gate (length bytes) ≡ bytes
      there = sym (slice_same (contents_of h) d 17 (length bytes) (λ k from to. same k (inr from) (omega (arith, is.whole, to)))) ∙ is.there

      pub turned_with : file_gate d ≡ 1 → IsReplacement number image next d
      turned_with opened = record {
        opened = opened;
        number_is = number_is;
        spells = subst (λ (n : ℕ). Spells d image n) (sym of.place) (image_spells d bytes image of.sound of.some of.bytes_are there d_long);
        bound = of.bound;
      }

      torn_open : IsReplacing o number image next d
      torn_open = record {
        long = omega (arith, d_long, some);
        begins = λ k from to. is.shut.begins k from to ∙ same k (inl (omega (arith, to))) (omega (arith, is.shut.long, to));
        either = ⊎_elim (λ one. inr (inr (turned_with one))) (λ shut. inl shut) (cases_eq (byte d 16) 1);
      }

    module _ (h1 : History) (done1 : Type 0) (wrote1 : Wrote h 16 one_byte done1 h1) where
      pub open_first : Leaves h h1 (IsReplacing o number image next)
      open_first = goes_on_write h h h1 16 one_byte done1 (IsReplacing o number image next) (omega (arith, is.shut.long)) (started h (IsReplacing o number image next) staged_turning) wrote1 torn_open staged_turning

      module _ (is1 : done1) (h2 : History) (done2 : Type 0) (synced2 : Synced h1 done2 h2) where
        state1 : state_of h1 ≡ written (state_of h) 16 one_byte
        state1 = wrote_done h h1 16 one_byte done1 wrote1 is1

        within1 : (d : List ℕ) → IsImage (state_of h1) d → IsImage (during (state_of h) (Write 16 one_byte)) d
        within1 d im = after_write (state_of h) 16 one_byte d (omega (arith, is.shut.long)) (subst (λ (s : DiskState). IsImage s d) state1 im)

        pub open_second : Leaves h h2 (IsReplacing o number image next)
        open_second = goes_on_sync h h1 h2 done2 (IsReplacing o number image next) open_first synced2 (λ d im. torn_open d (within1 d im))

        pub open_done : done2 → IsReplacement number image next (contents_of h2)
        open_done is2 = subst (λ (l : List ℕ). IsReplacement number image next l) (sym holds2) (turned_with (contents_of h1) (within1 (contents_of h1) (contents_image (state_of h1) (synced_within h1))) opened)
          where
            holds2 : contents_of h2 ≡ contents_of h1
            holds2 = ap (λ (s : DiskState). s.contents) (synced_done h1 h2 done2 synced2 is2)

            opened : file_gate (contents_of h1) ≡ 1
            opened = ap (λ (s : DiskState). get_or s.contents 16 0) state1 ∙ put_same 16 one_byte (contents_of h) 16 0 (omega (arith, is.shut.long)) (omega arith) (omega arith)

-- no call that is done makes a file shorter
pub wrote_long : (n : ℕ) (h h1 : History) (at : ℕ) (bytes : List ℕ) (done : Type 0) → n ≤ length (contents_of h) → Wrote h at bytes done h1 → done → n ≤ length (contents_of h1)
wrote_long n h h1 at bytes done le wrote is = omega (arith, le, put_no_shorter at bytes (contents_of h), ap (λ (s : DiskState). length s.contents) (wrote_done h h1 at bytes done wrote is))

pub sync_long : (n : ℕ) (h h1 : History) (done : Type 0) → n ≤ length (contents_of h) → Synced h done h1 → n ≤ length (contents_of h1)
sync_long n h h1 done le synced = omega (arith, le, ap length (Rattle.disk_model.proofs.Images.synced_contents h h1 done synced))

-- the calls that close a gate, by what was read of it
pub opened_calls : (file : List ℕ) → (byte file 16 == 1) ≡ true → closing file ≡ Write 16 zero_byte ∷ (Sync true ∷ [])
opened_calls file is = ap (λ (b : Bool). cond b (Write 16 zero_byte ∷ (Sync true ∷ [])) []) is

pub shut_calls : (file : List ℕ) → (byte file 16 == 1) ≡ false → closing file ≡ []
shut_calls file is = ap (λ (b : Bool). cond b (Write 16 zero_byte ∷ (Sync true ∷ [])) []) is

pub none_made : (h h' : History) → h' ≡ h → DiskGoesOn h [] h'
none_made h h' same = record { first = ap (λ (x : History). x.first) same; calls = ap (λ (x : History). x.calls) same ∙ sym (append-nil h.calls) }
