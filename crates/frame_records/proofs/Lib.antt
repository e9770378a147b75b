mod PutFrames
mod HeldFrames
mod FirstIds
