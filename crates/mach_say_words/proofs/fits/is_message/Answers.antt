use Rattle.mach_say_words.proofs.fits.is_message.Goals as goal

-- what was read of the bytes has the parts
pub returns-in-Some : goal.returns-in-Some
returns-in-Some c = λ yes.
    let read = c.in-Some.ensures.some in
    record {
      header = read.header;
      body = read.written;
      spells = read.spells;
      parts = c.has_parts.ensures yes read.header read.written read.spells.body_fits (read.header_shows, read.body_shows);
    }
