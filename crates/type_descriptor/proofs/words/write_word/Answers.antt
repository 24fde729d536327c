use Rattle.type_descriptor.proofs.words.write_word.Goals as goal
use Rattle.type_descriptor.proofs.ByteWords.{put_mid-word}

pub returns : goal.returns
returns c = put_mid-word c.args.at c.args.value c.args.bytes.now c.write_u32.new.buf c.requires c.write_u32.ensures
