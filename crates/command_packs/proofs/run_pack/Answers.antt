use Rattle.command_packs.proofs.run_pack.Goals as goal

pub returns : goal.returns
returns g c = record {
  done = λ is.
      let done = c.write_packed.ensures.done is in (
        done.3,
        record {
          words = c.words_of.result;
          layout = done.0;
          origin = done.1;
          number = done.2;
          are_words = c.words_of.ensures;
          is_layout = done.4;
          is_head = done.5;
          is_packed = done.6;
        },
        done.7,
      );
  stopped = λ other sound.
      record { words = c.words_of.result; are_words = c.words_of.ensures; stops = c.write_packed.ensures.stopped other sound };
}
